-- Schedules that a node receives as it probes their channel.
use Rattle.std.proofs.Common.{◌≡◌, ℕ, ◌+◌, ◌<◌, ◌≤◌, List, [], ◌∷◌, ◌++◌, zero, suc, take, get_or, length, length-take}
use Rattle.std.proofs.Common.{inl, inr, Contains, AllPairs, refl, sym, ◌∙◌, ap, subst, arith}
use Rattle.std.proofs.lemmas.Bool.{cases_lt}
use Rattle.std.proofs.lemmas.List.{take_more, get_or-take, get_or_default}
use Rattle.std.proofs.lemmas.List.Elements.{Contains-append_cases}
use Rattle.scenario_text.specs.ScenarioParts.{ScenarioParts}
use Rattle.radio_model.specs.Hearing.{Before, TunedThrough}
use Rattle.radio_model.specs.OnAir.{Tuning}
use Rattle.radio_model.specs.Reaches.{HoldSame}
use Rattle.radio_model.specs.declared.sending.Sending.{Sending}
use Rattle.radio_model.proofs.Members.{in_head}
use Rattle.air_log.specs.declared.entry.Entry.{Entry}
use Rattle.air_log.specs.Entries.{sendings_of, tunings_of}
use Rattle.air_log.specs.HearsAir.{scene_of}
use Rattle.air_log.specs.Trails.{frame_start}
use Rattle.host_return.specs.Probes.{Brings, IsOfFrame, with_probe}

-- it is tuned there all the time
pub tuned_through : (s : ScenarioParts) (air : List Entry) (f v rank : ℕ) (x : Sending) → x.rank ≡ rank → IsOfFrame s f x.start → IsOfFrame s f x.end
    → TunedThrough (scene_of s.profile s.trace (with_probe s air f v rank)) v x
tuned_through s air f v rank x channel starts ends t after before =
    let own : Tuning = record { rank = rank; node = v; start = frame_start s f; end = frame_start s (f + 1) } in
    let since = starts.since in
    let until = ends.until in
    record {
      tuning = own;
      there = in_head (tunings_of air) own;
      node = refl;
      rank = sym channel;
      since = omega (arith, since, after);
      until = omega (arith, until, before);
    }

-- a probe sends nothing
pub same_sent : (s : ScenarioParts) (air : List Entry) (f v rank : ℕ) (sent : List Sending) → HoldSame (sendings_of air) sent
    → HoldSame (scene_of s.profile s.trace (with_probe s air f v rank)).sendings sent
same_sent s air f v rank sent same = record { into = same.into; back = same.back }

-- none of the first is one, and the next is none
pub none_more : (B : Sending → Type 0) (some : List Sending) (i : ℕ) (x : Sending) → i < length some → x ≡ get_or some i x
    → ((y : Sending) → Contains (take i some) y → B y → ⊥) → (B x → ⊥) → (y : Sending) → Contains (take (i + 1) some) y → B y → ⊥
none_more B some i x below at none other y there brings =
    let more : take (i + 1) some ≡ take i some ++ x ∷ [] = take_more some i x below ∙ ap (λ (z : Sending). take i some ++ z ∷ []) (sym at) in
    elim (Contains-append_cases (take i some) (x ∷ []) y (subst (λ (ys : List Sending). Contains ys y) more there)) [
      | inl earlier ↦ none y earlier brings
      | inr here ↦ other (subst B (sym (only x y here)) brings)
    ]
  where
    only : (x y : Sending) → Contains (x ∷ []) y → x ≡ y
    only x y (zero, below, at) = at
    only x y (suc k, below, at) = absurd (omega arith)

-- where one starts after the frame, so do all after it
pub none_after : (s : ScenarioParts) (air : List Entry) (f v rank : ℕ) (some : List Sending) (i : ℕ) (x : Sending) → i < length some → x ≡ get_or some i x
    → AllPairs Before some → frame_start s f ≤ x.start → (IsOfFrame s f x.start → ⊥)
    → ((y : Sending) → Contains (take i some) y → Brings s air f v rank y → ⊥)
    → (y : Sending) → Contains some y → Brings s air f v rank y → ⊥
none_after s air f v rank some i x below at in_order since over none y (k, within, is) brings = elim (cases_lt k i) [
  | inl less ↦ none y (k, omega (arith, less, below, length-take i some), get_or-take i some k y less ∙ is) brings
  | inr from ↦
      let later : x.start ≤ y.start = elim (cases_lt i k) [
        | inl less ↦
            let so = (in_order i k y less within).start in
            let first = ap (λ (z : Sending). z.start) (at ∙ get_or_default some i x y below) in
            let second = ap (λ (z : Sending). z.start) is in
            omega (arith, so, first, second)
        | inr not ↦
            let same : i ≡ k = omega arith in
            let first = ap (λ (z : Sending). z.start) (at ∙ get_or_default some i x y below ∙ ap (λ (n : ℕ). get_or some n y) same ∙ is) in
            omega (arith, first)
      ] in
      let until = brings.starts.until in
      over (record { since = since; until = omega (arith, later, until) })
]
