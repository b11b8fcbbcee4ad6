-- What a log holds, one entry more at a time, and what of it was sent by trails.
use Rattle.std.proofs.Common.{◌≡◌, ℕ, ◌+◌, ◌<◌, List, [], ◌++◌, take, map, length, get_or, Bool, true, false, ◌==◌}
use Rattle.std.proofs.Common.{if◌then◌else◌, Option, Some, None, option_map, option_to_list, filter_map, refl, sym, ◌∙◌, ap, arith, inl, inr}
use Rattle.std.proofs.Common.{eq-eqb, Contains, All}
use Rattle.std.specs.Prelude.{IsPermutation}
use Rattle.std.proofs.lemmas.Bool.{cases_order}
use Rattle.std.proofs.lemmas.List.{map-append}
use Rattle.std.proofs.lemmas.List.Sorted.{Contains-permutation, IsPermutation-sym}
use Rattle.std.proofs.lemmas.List.Elements.{All-contains, Contains-get_or}
use Rattle.scenario_text.specs.FloodParts.{knows}
use Rattle.scenario_text.specs.ScenarioParts.{ScenarioParts}
use Rattle.radio_model.specs.OnAir.{Sending}
use Rattle.lwb_base.proofs.Elements.{not_in_none}
use Rattle.lwb_base.proofs.Lists.{chosen_more}
use Rattle.air_log.specs.Entries.{sendings_of}
use Rattle.air_log.specs.Lawful.{FollowsTrails, trail_sent, trail_in, sent_by, heard_by}
use Rattle.air_log.specs.TrailEntries.{IsSentBefore}
use Rattle.air_log.specs.Trails.{run_end}
use Rattle.air_log.specs.declared.entry.Entry.{Entry}
use Rattle.lwb_base.proofs.Elements.{in_filtered}
use Rattle.air_log.proofs.TrailSendings.{in_order, each_sent}

mapped : {X Y : Type 0} (g : X → Y) (o : Option X) → map g (option_to_list o) ≡ option_to_list (option_map g o)
mapped g None = refl
mapped g (Some x) = refl

pub one_more_of : {X Y : Type 0} (g : X → Y) (f : Entry → Option Y) (air : List Entry) (i : ℕ) (e : Entry) (old new : List X) (o : Option X) → i < length air
    → e ≡ get_or air i e → option_map g o ≡ f e → map g old ≡ filter_map f (take i air) → new ≡ old ++ option_to_list o
    → map g new ≡ filter_map f (take (i + 1) air)
one_more_of {X} {Y} g f air i e old new o below at is so adds =
    chosen_more f air i e (map g old) (map g new) (option_map g o) below at is so
    (ap (map g) adds ∙ map-append g old (option_to_list o) ∙ ap (λ (l : List Y). map g old ++ l) (mapped g o))

-- what follows its trails was sent by trails
module _ (s : ScenarioParts) (clocks : ℕ → ℕ → ℕ) (air : List Entry) (trails : FollowsTrails s clocks air) where
  in_trail : (x : Sending) (v : ℕ) → x.node ≡ v → Contains (sendings_of air) x → Contains (trail_sent s clocks air v) x
  in_trail x v node there =
      Contains-permutation (sent_by air v) (trail_sent s clocks air v) x (IsPermutation-sym (trail_sent s clocks air v) (sent_by air v) (trails.sent v))
      (in_filtered (λ (y : Sending). y.node == v) (sendings_of air) x there (eq-eqb x.node v node))

  starts_in : (b : Bool) (v : ℕ) (x : Sending) → Contains (if b then (trail_in s clocks air v).made.sent else []) x → x.start < run_end s
  starts_in true v x there =
      (All-contains (IsSentBefore s v (run_end s)) (trail_in s clocks air v).made.sent x (each_sent s v (clocks v) (heard_by air v)) there).before
  starts_in false v x there = absurd (not_in_none x there)

  pub in_run : (x : Sending) → Contains (sendings_of air) x → x.start < run_end s
  in_run x there = starts_in (knows s.nodes x.node) x.node x (in_trail x x.node refl there)

  pub all_in_run : (xs : List Sending) → IsPermutation (sendings_of air) xs → All (λ (y : Sending). y.start < run_end s) xs
  all_in_run xs same k d below =
      in_run (get_or xs k d)
      (Contains-permutation xs (sendings_of air) (get_or xs k d) (IsPermutation-sym (sendings_of air) xs same) (Contains-get_or xs k d below))

  one_start : (b : Bool) (v : ℕ) (x y : Sending) → Contains (if b then (trail_in s clocks air v).made.sent else []) x
      → Contains (if b then (trail_in s clocks air v).made.sent else []) y → x.start ≡ y.start → x ≡ y
  one_start false v x y there also same = absurd (not_in_none x there)
  one_start true v x y (i, below, at) (j, within, is) same =
      let sent = (trail_in s clocks air v).made.sent in
      let pairs = in_order s v (clocks v) (heard_by air v) in
      let start_x = ap (λ (z : Sending). z.start) at in
      let start_y = ap (λ (z : Sending). z.start) is in
      elim (cases_order i j) [
        | inl here ↦ sym at ∙ ap (λ (k : ℕ). get_or sent k x) here ∙ other sent j x y within ∙ is
        | inr (inl less) ↦ let apart = pairs i j x less within in let same_default = ap (λ (z : Sending). z.start) (other sent j x y within) in
            absurd (omega (arith, apart, start_x, start_y, same_default, same))
        | inr (inr more) ↦ let apart = pairs j i x more below in let same_default = ap (λ (z : Sending). z.start) (other sent j x y within) in
            absurd (omega (arith, apart, start_x, start_y, same_default, same))
      ]
    where
      other : (xs : List Sending) (k : ℕ) (d e : Sending) → k < length xs → get_or xs k d ≡ get_or xs k e
      other xs k d e in_it = Rattle.std.proofs.lemmas.List.get_or_default xs k d e in_it

  -- a node begins one transmission at a tick
  pub one_of_node : (x y : Sending) → Contains (sendings_of air) x → Contains (sendings_of air) y → x.node ≡ y.node → x.start ≡ y.start → x ≡ y
  one_of_node x y there also node same =
      one_start (knows s.nodes x.node) x.node x y (in_trail x x.node refl there) (in_trail y x.node (sym node) also) same
