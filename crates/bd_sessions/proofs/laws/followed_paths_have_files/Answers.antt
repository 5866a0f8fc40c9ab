use Rattle.bd_sessions.proofs.FileLemmas.{followed_file}
use Rattle.bd_sessions.proofs.laws.followed_paths_have_files.Goals as goal

pub returns : goal.returns
returns c = followed_file
