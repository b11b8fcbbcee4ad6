-- No transmission is there twice in a log that follows its trails.
use Rattle.std.proofs.Common.{◌≡◌, ◌≢◌, ℕ, List, [], ◌∷◌, Bool, true, false, ◌==◌, filter, AllPairs, Contains, if◌then◌else◌, refl, sym, subst, arith}
use Rattle.std.specs.List.{IsDistinct}
use Rattle.std.proofs.lemmas.Bool.{cond_both, cond-true, eq-eqb, eqb-false, ne_eqb}
use Rattle.std.proofs.lemmas.List.Elements.{Contains-get_or}
use Rattle.std.proofs.lemmas.List.Kept.{AllPairs-cons}
use Rattle.std.proofs.lemmas.Map.Keys.{IsDistinct-IsPermutation, IsDistinct-from_apart, apart_from_distinct}
use Rattle.radio_model.specs.declared.sending.Sending.{Sending}
use Rattle.scenario_text.specs.ScenarioParts.{ScenarioParts}
use Rattle.scenario_text.specs.FloodParts.{knows}
use Rattle.air_log.specs.declared.entry.Entry.{Entry}
use Rattle.air_log.specs.Entries.{sendings_of}
use Rattle.air_log.specs.Lawful.{FollowsTrails, heard_by, sent_by}
use Rattle.air_log.specs.Trails.{trail}
use Rattle.lwb_base.proofs.Elements.{in_filtered, pairs_head, pairs_tail}
use Rattle.lwb_base.proofs.Orders.{equal_turned}
use Rattle.air_log.proofs.TrailSendings.{in_order}

abbrev start_together : Sending → Sending → Bool
start_together x y = x.start == y.start

-- the trail of a node sends at one time after another, so its transmissions in the log start apart
abbrev StartApart : Sending → Sending → Type 0
StartApart x y = x.start ≢ y.start

abbrev of_node : ℕ → Sending → Bool
of_node v x = x.node == v

module _ (s : ScenarioParts) (clocks : ℕ → ℕ → ℕ) (air : List Entry) (follows : FollowsTrails s clocks air) where
  sent_apart : (v : ℕ) → IsDistinct start_together (trail s v (clocks v) (heard_by air v)).made.sent
  sent_apart v =
      IsDistinct-from_apart start_together (trail s v (clocks v) (heard_by air v)).made.sent
      (λ i j d less within. (let before = in_order s v (clocks v) (heard_by air v) i j d less within in ne_eqb _ _ (λ same. omega (arith, before, same))))

  told_apart : (v : ℕ) → IsDistinct start_together (sent_by air v)
  told_apart v =
      IsDistinct-IsPermutation start_together (λ x y. equal_turned x.start y.start) _ (sent_by air v) (follows.sent v) (by_known (knows s.nodes v))
    where
      by_known : (b : Bool) → IsDistinct start_together (if b then (trail s v (clocks v) (heard_by air v)).made.sent else [])
      by_known true = sent_apart v
      by_known false = IsDistinct-from_apart start_together [] (λ i j d less within. absurd (omega (arith, within)))

  start_apart : (v : ℕ) → AllPairs StartApart (sent_by air v)
  start_apart v i j d less within = eqb-false _ _ (apart_from_distinct start_together (sent_by air v) i j d (told_apart v) less within)

-- what starts apart at each node differs
rest_apart : (v : ℕ) (x : Sending) (xs : List Sending) → AllPairs StartApart (filter (of_node v) (x ∷ xs)) → AllPairs StartApart (filter (of_node v) xs)
rest_apart v x xs =
    cond_both (of_node v x) (x ∷ filter (of_node v) xs) (filter (of_node v) xs)
    (λ (ys : List Sending). AllPairs StartApart ys → AllPairs StartApart (filter (of_node v) xs))
    (λ own. pairs_tail StartApart x (filter (of_node v) xs))
    (λ other all. all)

no_more : (x : Sending) (xs : List Sending) → AllPairs StartApart (filter (of_node x.node) (x ∷ xs)) → Contains xs x → ⊥
no_more x xs apart again =
    let v = x.node in
    let kept : filter (of_node v) (x ∷ xs) ≡ x ∷ filter (of_node v) xs = cond-true (of_node v x) _ _ (eq-eqb v v refl) in
    pairs_head StartApart x (filter (of_node v) xs) (subst (AllPairs StartApart) kept apart) x (in_filtered (of_node v) xs x again (eq-eqb v v refl)) refl

all_differ : (xs : List Sending) → ((v : ℕ) → AllPairs StartApart (filter (of_node v) xs)) → AllPairs (λ x y. x ≢ y) xs
all_differ [] apart = λ i j d less within. absurd (omega (arith, within))
all_differ (x ∷ xs) apart =
    AllPairs-cons (λ a b. a ≢ b) x xs
    (λ j d within same. no_more x xs (apart x.node) (subst (Contains xs) (sym same) (Contains-get_or xs j d within)))
    (all_differ xs (λ v. rest_apart v x xs (apart v)))

pub sendings_differ : (s : ScenarioParts) (clocks : ℕ → ℕ → ℕ) (air : List Entry) → FollowsTrails s clocks air
    → AllPairs (λ x y. x ≢ y) (sendings_of air)
sendings_differ s clocks air follows = all_differ (sendings_of air) (start_apart s clocks air follows)
