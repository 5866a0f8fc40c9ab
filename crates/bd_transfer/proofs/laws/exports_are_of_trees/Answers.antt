-- Each reply is the tree's, so the export is one of the tree.
use Rattle.std.proofs.Common.{[], refl}
use Rattle.bd_shell.specs.Transcript.{exchanges_of}
use Rattle.bd_stream.specs.Exporting.{begin}
use Rattle.bd_transfer.proofs.Trees.{entries_way, interview_answers, never_short}
use Rattle.bd_transfer.proofs.laws.exports_are_of_trees.Goals as goal

pub returns-clause-answers : goal.returns-clause-answers
returns-clause-answers c s top es last out none t i = interview_answers (exchanges_of es) es s (begin top) last [] out none t refl i

pub returns-clause-way : goal.returns-clause-way
returns-clause-way c s top es last out none tree short t i = entries_way s top es last out none tree short t i

pub returns-clause-never_short : goal.returns-clause-never_short
returns-clause-never_short c s top es last out front k free need none t same i asks = never_short front es s (begin top) last out k free need none t same i asks
