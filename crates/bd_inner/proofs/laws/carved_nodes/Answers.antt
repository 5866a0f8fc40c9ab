use Rattle.bd_inner.proofs.Carved.{carved_shape, carved_level, carved_meaning, carved_edges, carved_size, carved_times, carved_asked}
use Rattle.bd_inner.proofs.laws.carved_nodes.Goals as goal

pub returns-clause-shape : goal.returns-clause-shape
returns-clause-shape c = λ n m at shape room h. carved_shape n at m shape room h

pub returns-clause-level : goal.returns-clause-level
returns-clause-level c = λ n m at h. carved_level n at m h

pub returns-clause-meaning : goal.returns-clause-meaning
returns-clause-meaning c = λ below n m at shape room h k byte. carved_meaning below n at m shape room h k byte

pub returns-clause-edges : goal.returns-clause-edges
returns-clause-edges c = λ n m at shape h. carved_edges n at m shape h

pub returns-clause-size : goal.returns-clause-size
returns-clause-size c = λ n m at h. carved_size n at m h

pub returns-clause-names : goal.returns-clause-names
returns-clause-names c = λ n m at shape h x some. carved_times n at m shape h x some

pub returns-clause-asked : goal.returns-clause-asked
returns-clause-asked c = λ n m at prefix source child shape h there k byte front e is low. carved_asked n at m prefix source child shape h there k byte front e is low
