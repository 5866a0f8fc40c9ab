use Rattle.bd_message.proofs.Freed.{freed_source, freed_message, freed_larger, freed_smaller, kept_source, kept_message, kept_size}
use Rattle.bd_message.proofs.laws.freed_sizes.Goals as goal

pub returns-clause-source : goal.returns-clause-source
returns-clause-source c = freed_source

pub returns-clause-message : goal.returns-clause-message
returns-clause-message c = freed_message

pub returns-clause-larger : goal.returns-clause-larger
returns-clause-larger c = freed_larger

pub returns-clause-smaller : goal.returns-clause-smaller
returns-clause-smaller c = freed_smaller

pub returns-clause-kept_source : goal.returns-clause-kept_source
returns-clause-kept_source c = kept_source

pub returns-clause-kept_message : goal.returns-clause-kept_message
returns-clause-kept_message c = kept_message

pub returns-clause-kept_size : goal.returns-clause-kept_size
returns-clause-kept_size c = kept_size
