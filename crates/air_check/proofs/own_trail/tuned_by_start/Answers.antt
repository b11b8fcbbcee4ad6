use Rattle.std.proofs.Common.{ℕ, rules}
use Rattle.std.proofs.lemmas.List.Sorted.{IsNonDecreasingBy-from_sort_by_key}
use Rattle.air_log.specs.declared.entry.TunedEntry.{TunedEntry}
use Rattle.air_check.proofs.own_trail.tuned_by_start.Goals as goal

abbrev start : TunedEntry → ℕ
start x = x.start

pub returns-clause-rises : goal.returns-clause-rises
returns-clause-rises c = IsNonDecreasingBy-from_sort_by_key start _ c.in_ok-sort_by_key.ensures.sorted (λ a r q k. search rules)
