-- Probes of one node in one frame, and which come first.
use Rattle.std.proofs.Common.{◌≡◌, ℕ, ◌<◌, ◌≤◌, List, Bool, true, false, ◌&&◌, ◌||◌, ◌==◌, nat_lt, inl, inr, length, get_or, Option, Some}
use Rattle.std.proofs.Common.{refl, sym, ◌∙◌, ap, subst, arith}
use Rattle.std.specs.Prelude.{AllPairs, Contains}
use Rattle.std.proofs.lemmas.Bool.{cases_lt, cases_order, le-ltb, eqb-true}
use Rattle.std.proofs.lemmas.List.{get_or_default}
use Rattle.scenario_text.specs.FloodParts.{knows}
use Rattle.scenario_text.specs.ScenarioFacts.{IsSoundScenario}
use Rattle.scenario_text.specs.ScenarioParts.{ScenarioParts}
use Rattle.radio_model.specs.declared.sending.Sending.{Sending}
use Rattle.air_log.specs.declared.entry.Entry.{Entry}
use Rattle.air_log.specs.declared.idle.Idle.{Idle}
use Rattle.host_return.specs.Candidates.{return_comes_before, is_listed}
use Rattle.host_return.specs.Probes.{Brings, probed_rank, idle_of}
use Rattle.host_return.specs.declared.returned.Return.{Return}
use Rattle.host_return.proofs.IdleInOrder.{IsEarlier, idle_ordered}
use Rattle.host_return.proofs.IdleInRuns.{idle_listed}

pub moved_probe : (s : ScenarioParts) (air : List Entry) (f v g u : ℕ) (o : Option ℕ) → f ≡ g → v ≡ u → probed_rank s air f v ≡ o → probed_rank s air g u ≡ o
moved_probe s air f v g u o frame node is =
    subst (λ (n : ℕ). probed_rank s air g n ≡ o) node (subst (λ (n : ℕ). probed_rank s air n v ≡ o) frame is)

pub moved_brings : (s : ScenarioParts) (air : List Entry) (f v r g u q : ℕ) (x : Sending) → f ≡ g → v ≡ u → r ≡ q → Brings s air f v r x → Brings s air g u q x
moved_brings s air f v r g u q x frame node rank is =
    subst (λ (n : ℕ). Brings s air g u n x) rank (subst (λ (n : ℕ). Brings s air g n r x) node (subst (λ (n : ℕ). Brings s air n v r x) frame is))

-- a candidate that comes in no earlier frame, and there with no lower id
neither : (a e n : Bool) → a ≡ false → (e ≡ true → n ≡ false) → (a || (e && n)) ≡ false
neither true e n never other = never
neither false false n never other = refl
neither false true n never other = other refl

pub not_earlier : (q r : Return) → (q.frame < r.frame → ⊥) → (q.frame ≡ r.frame → r.node ≤ q.node) → return_comes_before q r ≡ false
not_earlier q r never up =
    let from : r.frame ≤ q.frame = elim (cases_lt q.frame r.frame) [ inl less ↦ absurd (never less) | inr at ↦ at ] in
    neither (nat_lt q.frame r.frame) (q.frame == r.frame) (nat_lt q.node r.node) (le-ltb q.frame r.frame from)
    (λ is. le-ltb q.node r.node (up (eqb-true q.frame r.frame is)))

-- none of the first i is of the frame and the node of q
abbrev pub NoneAmong : List Idle → ℕ → Return → Type 0
NoneAmong idle i q = (k : ℕ) (d : Idle) → k < i → k < length idle → (get_or idle k d).frame ≡ q.frame → (get_or idle k d).node ≡ q.node → ⊥

-- where a run lists who is idle, what is listed first comes first
module _ (s : ScenarioParts) (air : List Entry) (sound : IsSoundScenario s) (idle : List Idle) (are : idle ≡ idle_of s air) where
  -- the place of a probe
  record HasPlace (f v : ℕ) : Type 0 where
    pub place : ℕ
    pub one : Idle
    pub below : place < length idle
    pub here : get_or idle place one ≡ one
    pub frame : one.frame ≡ f
    pub node : one.node ≡ v

  place_of : (f v q : ℕ) → knows s.nodes v ≡ true → f < s.frames → probed_rank s air f v ≡ Some q → HasPlace f v
  place_of f v q known less probes =
      let is = idle_listed s air f v q known less probes in
      let there : Contains idle is.idle = subst (λ (l : List Idle). Contains l is.idle) (sym are) is.there in
      record { place = there.0; one = is.idle; below = there.1; here = there.2; frame = is.frame; node = is.node }

  not_in : (i : ℕ) (q : Return) (w : HasPlace q.frame q.node) → NoneAmong idle i q → w.place < i → ⊥
  not_in i q w none less =
      none w.place w.one less w.below (ap (λ (y : Idle). y.frame) w.here ∙ w.frame) (ap (λ (y : Idle). y.node) w.here ∙ w.node)

  pub first_listed : (i : ℕ) (one : Idle) → i < length idle → one ≡ get_or idle i one → (q r : Return) → knows s.nodes q.node ≡ true → q.frame < s.frames
      → probed_rank s air q.frame q.node ≡ Some q.rank → r.frame ≡ one.frame → r.node ≡ one.node → NoneAmong idle i q → return_comes_before q r ≡ false
  first_listed i one below at q r known in_run probes frame node none =
      let w = place_of q.frame q.node q.rank known in_run probes in
      let x : Idle = w.one in
      let frame_x = w.frame in
      let node_x = w.node in
      elim (cases_order w.place i) [
        | inl same ↦
            let is : one ≡ x = at ∙ get_or_default idle i one x below ∙ ap (λ (n : ℕ). get_or idle n x) (sym same) ∙ w.here in
            let frames = ap (λ (y : Idle). y.frame) is in
            let nodes = ap (λ (y : Idle). y.node) is in
            not_earlier q r (λ less. absurd (omega (arith, less, frame, frames, frame_x))) (λ alike. omega (arith, node, nodes, node_x))
        | inr (inl less) ↦ absurd (not_in i q w none less)
        | inr (inr more) ↦
            let raw : IsEarlier (get_or idle i x) (get_or idle w.place x) =
            subst (AllPairs IsEarlier) (sym are) (idle_ordered s air sound) i w.place x more w.below in
            let earlier : IsEarlier one x = subst (IsEarlier one) w.here
            (subst (λ (y : Idle). IsEarlier y (get_or idle w.place x)) (sym (at ∙ get_or_default idle i one x below)) raw) in
            let up = earlier.frame in
            not_earlier q r (λ less. absurd (omega (arith, less, up, frame, frame_x)))
            (λ alike. (let higher = earlier.node (omega (arith, alike, frame, frame_x)) in omega (arith, higher, node, node_x)))
      ]

  -- where none of all is fresh, a candidate is listed
  pub none_fresh : (listed : List Return) (i : ℕ) (q : Return) → length idle ≤ i → knows s.nodes q.node ≡ true → q.frame < s.frames
      → probed_rank s air q.frame q.node ≡ Some q.rank → (is_listed listed q ≡ false → NoneAmong idle i q) → is_listed listed q ≡ true
  none_fresh listed i q all known in_run probes none = by_test (is_listed listed q) refl
    where
      by_test : (b : Bool) → is_listed listed q ≡ b → is_listed listed q ≡ true
      by_test true is = is
      by_test false is =
          let w = place_of q.frame q.node q.rank known in_run probes in
          let within = w.below in
          absurd (not_in i q w (none is) (omega (arith, within, all)))
