use Rattle.std.proofs.Common.{List, rules, sym, subst, map, AllPairs}
use Rattle.std.proofs.lemmas.List.Sorted.{answers_always}
use Rattle.air_log.specs.Entries.{tunings_of}
use Rattle.air_check.specs.Tunings.{AreTuned, IsNoLater, tuning_of_tuned}
use Rattle.air_check.specs.declared.tunings.Tuned.{Tuned}
use Rattle.air_check.proofs.Extended.{place_of, before_pairs, same_tunings}
use Rattle.air_check.proofs.tuned_index.tuned_of.Goals as goal

pub extended-requires : goal.extended-requires
extended-requires c =
    subst (AllPairs IsNoLater) (sym c.deref.ensures.value)
    (before_pairs c.sort_by_key.new.self.items (c.in_ok-sort_by_key.ensures.sorted place_of (answers_always _ _ _ (λ f a r g h. search rules))))

pub returns : goal.returns
returns c =
    same_tunings (tunings_of c.args.air.now) c.in_ok-tunings.tunings.items c.sort_by_key.new.self.items c.in_ok-tuned.tuned.items c.in_ok-tunings.ensures
    c.sort_by_key.ensures.permutation
    (subst (λ (es : List Tuned). AreTuned (map tuning_of_tuned es) c.in_ok-tuned.tuned.items) c.deref.ensures.value c.in_ok-tuned.ensures)
