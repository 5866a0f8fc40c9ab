use Rattle.std.proofs.Common.{take}
use Rattle.std.specs.List.{AllByRecursion}
use Rattle.bd_pager.specs.declared.stepping.Put.{Put}
use Rattle.bd_pager.specs.Counting.{IsListed, IsListedMore}
use Rattle.bd_pager.proofs.stepping.list_all.Given as goal

-- the ids so far are listed
abbrev pub invariant-loop-put : goal.invariant-loop-put
invariant-loop-put l = record {
  listed : AllByRecursion (λ (put : Put). IsListed l.usage.listed put.id) (take l.put-index l.puts);
  more : IsListedMore l.fn.usage l.usage;
}
