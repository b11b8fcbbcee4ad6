-- Among the windows of a node: the first of a frame, the one before and the one after each.
use Rattle.std.proofs.Common.{◌≡◌, ℕ, suc, ◌<◌, ◌⊎◌, inl, inr, List, [], ◌∷◌, true, Some, Contains, sym, ◌∙◌, ap, subst, arith}
use Rattle.node_core.specs.declared.stage.Stage.TheVariants.{AwaitSlot}
use Rattle.scenario_text.specs.ScenarioParts.{ScenarioParts}
use Rattle.air_log.specs.declared.entry.Entry.{Entry}
use Rattle.air_log.specs.WindowLogs.{WindowLog, Closing}
use Rattle.lwb_base.proofs.Elements.{not_in_none, contains_head, contains_tail, contains_cases}
use Rattle.law_windows.proofs.LinkedWindows.{AreLinked, IsFirst, IsNext, LinksTo}

module _ (s : ScenarioParts) (clocks : ℕ → ℕ → ℕ) (air : List Entry) (v : ℕ) where
  -- the first window of the frame of a window
  pub record FirstOf (logs : List WindowLog) (w : WindowLog) : Type 0 where
    pub window : WindowLog
    pub there : Contains logs window
    pub frame : window.frame ≡ w.frame
    pub rank : window.rank ≡ w.rank
    pub earlier : List WindowLog
    pub is : IsFirst s clocks air v window.frame window.rank window.slot window.by_alarm window.before earlier

  -- what it is linked to
  pub record LinkOf (logs : List WindowLog) (w : WindowLog) : Type 0 where
    pub earlier : List WindowLog
    pub link : LinksTo s clocks air v w earlier
    pub inside : (y : WindowLog) → Contains earlier y → Contains logs y

  -- the window that follows it in its frame
  pub record FollowedBy (logs : List WindowLog) (w : WindowLog) : Type 0 where
    pub window : WindowLog
    pub there : Contains logs window
    pub frame : window.frame ≡ w.frame
    pub rank : window.rank ≡ w.rank
    pub slot : window.slot ≡ suc w.slot
    pub alarm : window.by_alarm ≡ true
    pub closing : Closing
    pub closed : w.closed ≡ Some closing
    pub node : closing.after ≡ window.before
    pub awaited : window.before.stage ≡ AwaitSlot (suc w.slot)

  pub record IsLast (logs : List WindowLog) (w : WindowLog) : Type 0 where
    pub earlier : List WindowLog
    pub is : logs ≡ w ∷ earlier

  -- one of a later frame
  pub record LaterThan (logs : List WindowLog) (w : WindowLog) : Type 0 where
    pub window : WindowLog
    pub there : Contains logs window
    pub frame : w.frame < window.frame

  last_inside : (logs : List WindowLog) (x : WindowLog) (is : IsNext s clocks air v x.frame x.rank x.slot x.by_alarm x.before logs) → Contains logs is.last
  last_inside logs x is = subst (λ (l : List WindowLog). Contains l is.last) (sym is.is) (contains_head is.last is.earlier)

  pub first_of : (logs : List WindowLog) → AreLinked s clocks air v logs → (w : WindowLog) → Contains logs w → FirstOf logs w
  first_of [] linked w there = absurd (not_in_none w there)
  first_of (x ∷ xs) linked w there =
      elim (contains_cases x xs w there) [
        | inl same ↦ of_head linked.0 (λ y inside. first_of xs linked.1 y inside) same
        | inr old ↦ (let found = first_of xs linked.1 w old in
            record {
              window = found.window;
              there = contains_tail x xs found.window found.there;
              frame = found.frame;
              rank = found.rank;
              earlier = found.earlier;
              is = found.is;
            })
      ]
    where
      of_head : LinksTo s clocks air v x xs → ((y : WindowLog) → Contains xs y → FirstOf xs y) → x ≡ w → FirstOf (x ∷ xs) w
      of_head (inl first) rest same = record {
        window = x;
        there = contains_head x xs;
        frame = ap (λ (z : WindowLog). z.frame) same;
        rank = ap (λ (z : WindowLog). z.rank) same;
        earlier = xs;
        is = first;
      }
      of_head (inr next) rest same =
          let found = rest next.last (last_inside xs x next) in
          record {
            window = found.window;
            there = contains_tail x xs found.window found.there;
            frame = found.frame ∙ next.of_frame ∙ ap (λ (z : WindowLog). z.frame) same;
            rank = found.rank ∙ next.of_rank ∙ ap (λ (z : WindowLog). z.rank) same;
            earlier = found.earlier;
            is = found.is;
          }

  pub link_of : (logs : List WindowLog) → AreLinked s clocks air v logs → (w : WindowLog) → Contains logs w → LinkOf logs w
  link_of [] linked w there = absurd (not_in_none w there)
  link_of (x ∷ xs) linked w there =
      elim (contains_cases x xs w there) [
        | inl same ↦ record {
          earlier = xs;
          link = subst (λ (z : WindowLog). LinksTo s clocks air v z xs) same linked.0;
          inside = λ y inside. contains_tail x xs y inside;
        }
        | inr old ↦ (let found = link_of xs linked.1 w old in
            record { earlier = found.earlier; link = found.link; inside = λ y inside. contains_tail x xs y (found.inside y inside) })
      ]

  pub behind : (logs : List WindowLog) → AreLinked s clocks air v logs → (w : WindowLog) → Contains logs w
      → IsLast logs w ⊎ (FollowedBy logs w ⊎ LaterThan logs w)
  behind [] linked w there = absurd (not_in_none w there)
  behind (x ∷ xs) linked w there =
      elim (contains_cases x xs w there) [
        | inl same ↦ inl (record { earlier = xs; is = ap (λ (z : WindowLog). z ∷ xs) same })
        | inr old ↦ of_rest linked.0 old (behind xs linked.1 w old)
      ]
    where
      followed : (last : IsLast xs w) → IsNext s clocks air v x.frame x.rank x.slot x.by_alarm x.before xs → FollowedBy (x ∷ xs) w
      followed last next =
          let both : next.last ∷ next.earlier ≡ w ∷ last.earlier = sym next.is ∙ last.is in
          let same : next.last ≡ w = cc in
          record {
            window = x;
            there = contains_head x xs;
            frame = sym next.of_frame ∙ ap (λ (z : WindowLog). z.frame) same;
            rank = sym next.of_rank ∙ ap (λ (z : WindowLog). z.rank) same;
            slot = next.of_slot ∙ ap (λ (z : WindowLog). suc z.slot) same;
            alarm = next.alarm;
            closing = next.closing;
            closed = subst (λ (z : WindowLog). z.closed ≡ Some next.closing) same next.closed;
            node = next.node;
            awaited = subst (λ (z : WindowLog). x.before.stage ≡ AwaitSlot (suc z.slot)) same next.awaited;
          }

      of_rest : LinksTo s clocks air v x xs → Contains xs w → IsLast xs w ⊎ (FollowedBy xs w ⊎ LaterThan xs w)
          → IsLast (x ∷ xs) w ⊎ (FollowedBy (x ∷ xs) w ⊎ LaterThan (x ∷ xs) w)
      of_rest (inl first) old (inl last) = inr (inr (record { window = x; there = contains_head x xs; frame = first.first w old }))
      of_rest (inr next) old (inl last) = inr (inl (followed last next))
      of_rest link old (inr (inl is)) = inr (inl (record {
        window = is.window;
        there = contains_tail x xs is.window is.there;
        frame = is.frame;
        rank = is.rank;
        slot = is.slot;
        alarm = is.alarm;
        closing = is.closing;
        closed = is.closed;
        node = is.node;
        awaited = is.awaited;
      }))
      of_rest link old (inr (inr is)) = inr (inr (record { window = is.window; there = contains_tail x xs is.window is.there; frame = is.frame }))

  -- slots rise from window to window of a frame
  below : (x : WindowLog) (xs : List WindowLog) → LinksTo s clocks air v x xs → AreLinked s clocks air v xs
      → (y : WindowLog) → Contains xs y → y.frame ≡ x.frame → y.slot < x.slot
  below x [] link linked y there frame = absurd (not_in_none y there)
  below x (z ∷ zs) (inl first) linked y there frame = absurd (let earlier = first.first y there in omega (arith, earlier, frame))
  below x (z ∷ zs) (inr next) linked y there frame =
      let both : z ∷ zs ≡ next.last ∷ next.earlier = next.is in
      let same : z ≡ next.last = cc in
      let slot : x.slot ≡ suc z.slot = next.of_slot ∙ ap (λ (u : WindowLog). suc u.slot) (sym same) in
      let of_frame : z.frame ≡ x.frame = ap (λ (u : WindowLog). u.frame) same ∙ next.of_frame in
      elim (contains_cases z zs y there) [
        | inl is ↦ (let here = ap (λ (u : WindowLog). u.slot) is in omega (arith, slot, here))
        | inr old ↦ (let less = below z zs linked.0 linked.1 y old (frame ∙ sym of_frame) in omega (arith, slot, less))
      ]

  -- so a slot has one window at most
  pub once : (logs : List WindowLog) → AreLinked s clocks air v logs → (w y : WindowLog) → Contains logs w → Contains logs y
      → w.frame ≡ y.frame → w.slot ≡ y.slot → w ≡ y
  once [] linked w y there also frame slot = absurd (not_in_none w there)
  once (x ∷ xs) linked w y there also frame slot =
      elim (contains_cases x xs w there) [
        | inl is_w ↦ elim (contains_cases x xs y also) [
          | inl is_y ↦ sym is_w ∙ is_y
          | inr old_y ↦ absurd (
              let less = below x xs linked.0 linked.1 y old_y (sym frame ∙ sym (ap (λ (u : WindowLog). u.frame) is_w)) in
              let here = ap (λ (u : WindowLog). u.slot) is_w in
              omega (arith, less, here, slot))
        ]
        | inr old_w ↦ elim (contains_cases x xs y also) [
          | inl is_y ↦ absurd (
              let less = below x xs linked.0 linked.1 w old_w (frame ∙ sym (ap (λ (u : WindowLog). u.frame) is_y)) in
              let here = ap (λ (u : WindowLog). u.slot) is_y in
              omega (arith, less, here, slot))
          | inr old_y ↦ once xs linked.1 w y old_w old_y frame slot
        ]
      ]
