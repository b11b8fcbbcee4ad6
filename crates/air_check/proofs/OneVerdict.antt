-- A log has one verdict at most.
use Rattle.std.proofs.Common.{◌≡◌, ◌≢◌, ℕ, ◌<◌, ◌⊎◌, inl, inr, List, [], ◌∷◌, ◌++◌, Contains, AllPairs, length}
use Rattle.std.proofs.Common.{refl, sym, ap, ◌∙◌, subst, arith}
use Rattle.std.proofs.lemmas.List.Elements.{Contains-append_right, filter_map-append}
use Rattle.radio_model.specs.declared.sending.Sending.{Sending}
use Rattle.radio_model.specs.OnAir.{Hearing}
use Rattle.lwb_base.proofs.Elements.{contains_head, contains_cases, not_in_none, pairs_head, pairs_tail}
use Rattle.scenario_text.specs.ScenarioParts.{ScenarioParts}
use Rattle.air_log.specs.declared.entry.Entry.{Entry}
use Rattle.air_log.specs.Entries.{hearing_in, hearings_of, heard_entry}
use Rattle.air_log.specs.Lawful.{Lawful as LawfulLog, FollowsTrails}
use Rattle.air_check.specs.declared.verdict.Verdict.{Verdict}
use Rattle.air_check.specs.declared.verdict.Verdict.TheVariants.{Lawful, Trail, Heard, Missing}
use Rattle.air_check.specs.Verdicts.{IsFirstAstray, IsGiven, AreGiven, IsFirstWrong, IsFirstMissing, NoLater, IsVerdict}

-- of two lists that are one the shorter begins the longer
begins : {X : Type 0} (xs ys us vs : List X) (a b : X) → xs ++ a ∷ ys ≡ us ++ b ∷ vs → length xs < length us → (rest : List X) × (us ≡ xs ++ a ∷ rest)
begins [] ys [] vs a b is less = absurd (omega (arith, less))
begins [] ys (u ∷ us) vs a b is less = (us, (let same : a ≡ u = cc in ap (λ (z : _). z ∷ us) (sym same)))
begins (x ∷ xs) ys [] vs a b is less = absurd (omega (arith, less))
begins {X} (x ∷ xs) ys (u ∷ us) vs a b is less =
    let shorter : length xs < length us = omega (arith, less) in
    let tail : xs ++ a ∷ ys ≡ us ++ b ∷ vs = cc in
    let more = begins xs ys us vs a b tail shorter in
    let same : x ≡ u = cc in (more.0, ap (λ (z : X). z ∷ us) (sym same) ∙ ap (λ (zs : List X). x ∷ zs) more.1)

-- no two of a list are one
twice : {X : Type 0} (xs ys : List X) (x : X) → AllPairs (λ a b. a ≢ b) (xs ++ x ∷ ys) → Contains xs x → ⊥
twice [] ys x differ there = not_in_none x there
twice {X} (y ∷ xs) ys x differ there =
    elim (contains_cases y xs x there) [
      | inl is ↦ pairs_head (λ (a b : X). a ≢ b) y (xs ++ x ∷ ys) differ x (Contains-append_right xs (x ∷ ys) x (contains_head x ys)) is
      | inr later ↦ twice xs ys x (pairs_tail (λ (a b : X). a ≢ b) y (xs ++ x ∷ ys) differ) later
    ]

hearings_split : (above below : List Entry) (h : Hearing)
    → hearings_of (above ++ heard_entry h.node h.sending ∷ below) ≡ hearings_of above ++ h ∷ hearings_of below
hearings_split above below h = filter_map-append hearing_in above (heard_entry h.node h.sending ∷ below)

module _ (s : ScenarioParts) (clocks : ℕ → ℕ → ℕ) (air : List Entry) where
  followed : FollowsTrails s clocks air → (v : ℕ) → IsFirstAstray s clocks air v → ⊥
  followed trails v first = first.astray (record { sent = trails.sent v; tuned = trails.tuned v })

  given : LawfulLog s clocks air → AreGiven s air air
  given lawful = record {
    given = λ v x there. (let both = (lawful.hearing.heard v x).0 there in record { ends = both.0; heard = both.1 });
    once = lawful.hearing.once;
  }

  -- where receptions are given, each once, none of them is wrong
  not_wrong : (above below : List Entry) (h : Hearing) → AreGiven s air (above ++ heard_entry h.node h.sending ∷ below)
      → ((IsGiven s air h.node h.sending → ⊥) ⊎ Contains (hearings_of above) h) → ⊥
  not_wrong above below h are wrong =
      let us = hearings_of above in
      let vs = hearings_of below in
      let split = hearings_split above below h in
      let there : Contains (hearings_of (above ++ heard_entry h.node h.sending ∷ below)) h =
      subst (λ (hs : List Hearing). Contains hs h) (sym split) (Contains-append_right us (h ∷ vs) h (contains_head h vs)) in
      let once : AllPairs (λ g k. g ≢ k) (us ++ h ∷ vs) = subst (λ (hs : List Hearing). AllPairs (λ g k. g ≢ k) hs) split are.once in
      elim wrong [ inl not ↦ not (are.given h.node h.sending there) | inr before ↦ twice us vs h once before ]

  right : AreGiven s air air → (i : ℕ) → IsFirstWrong s air i → ⊥
  right are i first = not_wrong first.above first.below first.hearing (subst (λ (es : List Entry). AreGiven s air es) first.splits are) first.wrong

  earlier : (i j : ℕ) → IsFirstWrong s air i → IsFirstWrong s air j → i < j → ⊥
  earlier i j one two less =
      let shorter : length one.above < length two.above = omega (arith, less, one.place, two.place) in
      let more = begins one.above one.below two.above two.below (heard_entry one.hearing.node one.hearing.sending)
      (heard_entry two.hearing.node two.hearing.sending) (sym one.splits ∙ two.splits) shorter in
      not_wrong one.above more.0 one.hearing (subst (λ (es : List Entry). AreGiven s air es) more.1 two.right) one.wrong

  here : LawfulLog s clocks air → (v u t : ℕ) → IsFirstMissing s air v u t → ⊥
  here lawful v u t first = first.missing.absent ((lawful.hearing.heard v first.sending).1 (first.missing.given.ends, first.missing.given.heard))

  same_number : (i j : ℕ) → (i < j → ⊥) → (j < i → ⊥) → i ≡ j
  same_number i j up down = omega (arith, up, down)

  same_id : (v w : ℕ) → IsFirstAstray s clocks air v → IsFirstAstray s clocks air w → v ≡ w
  same_id v w one two = same_number v w (λ less. one.astray (two.least v less)) (λ less. two.astray (one.least w less))

  same_start : (v w : ℕ) (x y : Sending) → NoLater v x w y → NoLater w y v x → (x.start ≡ y.start) × (x.node ≡ y.node) × (v ≡ w)
  same_start v w x y one two =
      let start : x.start ≡ y.start = omega (arith, one.start, two.start) in
      let node : x.node ≡ y.node = omega (arith, one.sender start, two.sender (sym start)) in
      (start, node, omega (arith, one.receiver start node, two.receiver (sym start) (sym node)))

  same_missing : (v u t w n k : ℕ) → IsFirstMissing s air v u t → IsFirstMissing s air w n k → Missing v u t ≡ Missing w n k
  same_missing v u t w n k one two =
      let all = same_start v w one.sending two.sending (one.first w two.sending two.missing) (two.first v one.sending one.missing) in
      let sender : u ≡ n = one.sender ∙ all.1 ∙ sym two.sender in
      let start : t ≡ k = one.start ∙ all.0 ∙ sym two.start in rw (all.2, sender, start) refl

  pub one_verdict : (a b : Verdict) → IsVerdict s clocks air a → IsVerdict s clocks air b → a ≡ b
  one_verdict Lawful Lawful a b = refl
  one_verdict Lawful (Trail w) a b = absurd (followed a.trails w b)
  one_verdict Lawful (Heard j) a b = absurd (right (given a) j b.1)
  one_verdict Lawful (Missing w n k) a b = absurd (here a w n k b.2)
  one_verdict (Trail v) Lawful a b = absurd (followed b.trails v a)
  one_verdict (Trail v) (Trail w) a b = ap Trail (same_id v w a b)
  one_verdict (Trail v) (Heard j) a b = absurd (followed b.0 v a)
  one_verdict (Trail v) (Missing w n k) a b = absurd (followed b.0 v a)
  one_verdict (Heard i) Lawful a b = absurd (right (given b) i a.1)
  one_verdict (Heard i) (Trail w) a b = absurd (followed a.0 w b)
  one_verdict (Heard i) (Heard j) a b = ap Heard (same_number i j (earlier i j a.1 b.1) (earlier j i b.1 a.1))
  one_verdict (Heard i) (Missing w n k) a b = absurd (right b.1 i a.1)
  one_verdict (Missing v u t) Lawful a b = absurd (here b v u t a.2)
  one_verdict (Missing v u t) (Trail w) a b = absurd (followed a.0 w b)
  one_verdict (Missing v u t) (Heard j) a b = absurd (right a.1 j b.1)
  one_verdict (Missing v u t) (Missing w n k) a b = same_missing v u t w n k a.2 b.2
