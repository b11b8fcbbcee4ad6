-- A node that listens in a window is tuned if and only if it has sent less often than its limit.
use Rattle.std.proofs.Common.{◌≡◌, ℕ, zero, suc, ◌+◌, ◌-◌, ◌<◌, ◌≤◌, List, [], ◌∷◌, ◌++◌, Bool, true, false, if◌then◌else◌, inl, inr, refl, sym, ◌∙◌, ap, subst}
use Rattle.std.proofs.Common.{arith, length, get_or}
use Rattle.std.specs.Prelude.{Contains}
use Rattle.std.proofs.lemmas.Bool.{cases_lt}
use Rattle.std.proofs.lemmas.List.Elements.{filter_map-append, Contains-append_right}
use Rattle.glossy_relay.specs.FloodState.{FloodState}
use Rattle.glossy_relay.specs.Relaying.{fits, after_heard, first_of}
use Rattle.radio_model.specs.declared.sending.Sending.{Sending}
use Rattle.air_log.specs.NodeEvents.{Event, Heard, Ended, flood_after_event, flood_after_events, own_end, own_ends}
use Rattle.lwb_flood.specs.FloodRun.{Run, flood_at_beginning, TunedByCount}
use Rattle.lwb_flood.specs.Windows.{off_at, IsListeningWindow}
use Rattle.lwb_base.proofs.Elements.{contains_head, contains_tail}

-- the end at a place is that of an own transmission, or the other if the place is past all of them
data EndAt (es : List Event) (i other : ℕ) : Type 0 where
  Inside : (x : Sending) → Contains es (Ended x) → get_or (own_ends es) i other ≡ x.end → i < length (own_ends es) → EndAt es i other
  Past : get_or (own_ends es) i other ≡ other → length (own_ends es) ≤ i → EndAt es i other

end_at : (es : List Event) (i other : ℕ) → EndAt es i other
end_at [] i other = Past refl (omega arith)
end_at (Heard x ∷ es) i other = elim (end_at es i other) [
  | Inside y there is less ↦ Inside y (contains_tail (Heard x) es (Ended y) there) is less
  | Past is more ↦ Past is more
]
end_at (Ended x ∷ es) zero other = Inside x (contains_head (Ended x) es) refl (omega arith)
end_at (Ended x ∷ es) (suc i) other = elim (end_at es i other) [
  | Inside y there is less ↦ Inside y (contains_tail (Ended x) es (Ended y) there) is (omega arith)
  | Past is more ↦ Past is (omega arith)
]

own_ends_append : (es fs : List Event) → own_ends (es ++ fs) ≡ own_ends es ++ own_ends fs
own_ends_append es fs = filter_map-append own_end es fs

within_first : (xs ys : List ℕ) (i other : ℕ) → i < length xs → get_or (xs ++ ys) i other ≡ get_or xs i other
within_first [] ys i other less = absurd (omega arith)
within_first (x ∷ xs) ys zero other less = refl
within_first (x ∷ xs) ys (suc i) other less = within_first xs ys i other (omega arith)

after_first : (xs ys : List ℕ) (i other : ℕ) → get_or (xs ++ ys) (length xs + i) other ≡ get_or ys i other
after_first [] ys i other = let at : 0 + i ≡ i = omega arith in ap (λ (j : ℕ). get_or ys j other) at
after_first (x ∷ xs) ys i other =
    let at : suc (length xs) + i ≡ suc (length xs + i) = omega arith in
    ap (λ (j : ℕ). get_or (x ∷ xs ++ ys) j other) at ∙ after_first xs ys i other

heard_keeps : (w : FloodState) (p : List ℕ) (b c : Bool) → (if b then record w { waiting = c; first = first_of w.first p } else w).sent ≡ w.sent
heard_keeps w p true c = refl
heard_keeps w p false c = refl

-- a flood counts the own transmissions that ended
pub sent_among : (w : FloodState) (es : List Event) → (flood_after_events w es).sent ≡ w.sent + length (own_ends es)
sent_among w [] = omega arith
sent_among w (Heard x ∷ es) =
    let kept : (after_heard w x.packet).sent ≡ w.sent = heard_keeps w x.packet (fits w x.packet) _ in
    omega (arith, kept, sent_among (after_heard w x.packet) es)
sent_among w (Ended x ∷ es) = omega (arith, sent_among (flood_after_event w (Ended x)) es)

module _ (r : Run) (Tuned : ℕ → Sending → Type 0) (v opening closing : ℕ) (lasts : (x : Sending) → Contains r.sendings x → x.start < x.end)
    (window : IsListeningWindow r Tuned v opening closing)
    (own : (z : Sending) → Contains (r.events v) (Ended z) → Contains r.sendings z × (z.node ≡ v)) where
  pub tuned_in_window : TunedByCount r Tuned v
  tuned_in_window x before rest sent time cut silent = (there, back)
    where
      number : (flood_after_events (flood_at_beginning r v) before).sent ≡ length (own_ends before)
      number = (let n = sent_among (flood_at_beginning r v) before in omega (arith, n))

      off_is : off_at r v closing ≡ get_or (own_ends before ++ own_ends rest) (r.setting.limit - 1) closing
      off_is = ap (λ (l : List ℕ). get_or l (r.setting.limit - 1) closing) (ap own_ends cut.whole ∙ own_ends_append before rest)

      there : Tuned v x → (flood_after_events (flood_at_beginning r v) before).sent < r.setting.limit
      there t =
          let until = window.only x sent time t in
          let some = window.some in
          elim (cases_lt (length (own_ends before)) r.setting.limit) [
            | inl less ↦ omega (arith, number)
            | inr more ↦ absurd (over (omega arith) until (end_at before (r.setting.limit - 1) closing))
          ]
        where
          over : r.setting.limit - 1 < length (own_ends before) → x.end ≤ off_at r v closing → EndAt before (r.setting.limit - 1) closing → ⊥
          over less until (Inside z in_before is inside) =
              let off : off_at r v closing ≡ z.end = off_is ∙ within_first (own_ends before) (own_ends rest) (r.setting.limit - 1) closing less ∙ is in
              let ended = cut.ended (Ended z) in_before in
              omega (arith, until, off, ended, lasts x sent)
          over less until (Past is past) = omega arith

      back : (flood_after_events (flood_at_beginning r v) before).sent < r.setting.limit → Tuned v x
      back less = window.tuned x sent (window.since x time)
          (not_off (r.setting.limit - 1 - length (own_ends before)) (omega (arith, number, less))
          (end_at rest (r.setting.limit - 1 - length (own_ends before)) closing))
        where
          not_off : (i : ℕ) → length (own_ends before) + i ≡ r.setting.limit - 1 → EndAt rest i closing → x.end ≤ off_at r v closing
          not_off i at (Inside z in_rest is inside) =
              let off : off_at r v closing ≡ z.end = off_is ∙ ap (λ (j : ℕ). get_or (own_ends before ++ own_ends rest) j closing) (sym at)
              ∙ after_first (own_ends before) (own_ends rest) i closing ∙ is in
              let ends = cut.later (Ended z) in_rest in
              let mine = own z (subst (λ (l : List Event). Contains l (Ended z)) (sym cut.whole) (Contains-append_right before rest (Ended z) in_rest)) in
              let last = lasts z mine.0 in
              elim (cases_lt z.start x.end) [
                | inl meets ↦ absurd (silent z mine.0 mine.1 (record { before = ends; after = meets }))
                | inr after_it ↦ omega (arith, off, last)
              ]
          not_off i at (Past is past) =
              let off : off_at r v closing ≡ closing = off_is ∙ ap (λ (j : ℕ). get_or (own_ends before ++ own_ends rest) j closing) (sym at)
              ∙ after_first (own_ends before) (own_ends rest) i closing ∙ is in
              omega (arith, off, window.until x time)
