-- A node receives nothing twice, so no two receptions of it are the same.
use Rattle.std.proofs.Common.{◌≡◌, ℕ, suc, ◌-◌, ◌⊎◌, inl, inr, List, [], ◌∷◌, ◌++◌, Bool, ◌==◌, Some, Option, Contains, filter, map, length, sym, ◌∙◌, ap}
use Rattle.std.proofs.Common.{subst, arith, eqb-true}
use Rattle.std.proofs.lemmas.Bool.{cond_both}
use Rattle.std.proofs.lemmas.Option.{same_Some}
use Rattle.radio_model.specs.declared.sending.Sending.{Sending}
use Rattle.radio_model.specs.OnAir.{Hearing}
use Rattle.radio_model.specs.Hearing.{Meets, Before}
use Rattle.scenario_text.specs.ScenarioParts.{ScenarioParts}
use Rattle.air_log.specs.declared.entry.Entry.{Entry}
use Rattle.air_log.specs.Entries.{hearings_of, HasHeardEntry}
use Rattle.air_log.specs.Devices.{Listening}
use Rattle.air_log.specs.Lawful.{Lawful, reception_comes_before, put_in, by_end, reception_of, hearings_by, heard_by}
use Rattle.air_log.specs.Trails.{Reception, ending_at}
use Rattle.lwb_base.proofs.Elements.{Distinct, not_in_none, contains_head, contains_tail, contains_cases, distinct_from_pairs, map_from, filtered}
use Rattle.air_log.proofs.SameSendings.{same_sending}
use Rattle.air_log.proofs.SendingsKept.{profile_lasts}
use Rattle.law_trails.specs.Obeying.{channel_if_on}
use Rattle.law_trails.specs.TrailLinks.{ListensSince, device_in}
use Rattle.law_trails.proofs.SentInTrails.{sent_lasts}
use Rattle.law_trails.proofs.TunedInTrails.{tuned_listens}
use Rattle.law_safety.specs.Invariant.{IsObedientRun}

-- ---- lists without repetition

filter_distinct : {X : Type 0} (test : X → Bool) (xs : List X) → Distinct xs → Distinct (filter test xs)
filter_distinct test [] all = tt
filter_distinct {X = X} test (x ∷ xs) all =
    cond_both (test x) (x ∷ filter test xs) (filter test xs) (λ (l : List X). Distinct l)
    (λ is. (λ there. all.0 (filtered test xs x there).0, filter_distinct test xs all.1))
    (λ not. filter_distinct test xs all.1)

map_distinct : {X Y : Type 0} (f : X → Y) (xs : List X) → ((a b : X) → Contains xs a → Contains xs b → f a ≡ f b → a ≡ b) → Distinct xs → Distinct (map f xs)
map_distinct f [] tells all = tt
map_distinct f (x ∷ xs) tells all = (
  λ there. (let w = map_from f xs (f x) there in all.0 (subst (Contains xs) (tells w.0 x (contains_tail x xs w.0 w.1) (contains_head x xs) w.2) w.1)),
  map_distinct f xs (λ a b first second same. tells a b (contains_tail x xs a first) (contains_tail x xs b second) same) all.1,
)

pub split_distinct : {X : Type 0} (xs ys : List X) (x : X) → Distinct (xs ++ x ∷ ys) → Contains xs x → ⊥
split_distinct [] ys x all there = not_in_none x there
split_distinct {X = X} (z ∷ xs) ys x all there = elim (contains_cases z xs x there) [
  | inl same ↦ all.0 (subst (Contains (xs ++ x ∷ ys)) (sym same) (within xs ys x))
  | inr later ↦ split_distinct xs ys x all.1 later
]
  where
    within : (xs ys : List X) (x : X) → Contains (xs ++ x ∷ ys) x
    within [] ys x = contains_head x ys
    within (y ∷ xs) ys x = contains_tail y (xs ++ x ∷ ys) x (within xs ys x)

put_cases : (h : Hearing) (gs : List Hearing) (y : Hearing) → Contains (put_in h gs) y → (h ≡ y) ⊎ Contains gs y
put_cases h [] y there = contains_cases h [] y there
put_cases h (g ∷ gs) y there =
    cond_both (reception_comes_before g h) (g ∷ put_in h gs) (h ∷ g ∷ gs) (λ (l : List Hearing). Contains l y → (h ≡ y) ⊎ Contains (g ∷ gs) y)
    (λ before is. elim (contains_cases g (put_in h gs) y is) [
      | inl same ↦ inr (subst (Contains (g ∷ gs)) same (contains_head g gs))
      | inr later ↦ elim (put_cases h gs y later) [ inl here ↦ inl here | inr old ↦ inr (contains_tail g gs y old) ]
    ])
    (λ not is. contains_cases h (g ∷ gs) y is) there

put_distinct : (h : Hearing) (gs : List Hearing) → (Contains gs h → ⊥) → Distinct gs → Distinct (put_in h gs)
put_distinct h [] none all = (none, tt)
put_distinct h (g ∷ gs) none all =
    cond_both (reception_comes_before g h) (g ∷ put_in h gs) (h ∷ g ∷ gs) (λ (l : List Hearing). Distinct l)
    (λ before. (
      λ there. elim (put_cases h gs g there) [ inl same ↦ none (subst (Contains (g ∷ gs)) (sym same) (contains_head g gs)) | inr old ↦ all.0 old ],
      put_distinct h gs (λ there. none (contains_tail g gs h there)) all.1,
    ))
    (λ not. (none, all))

sorted_from : (hs : List Hearing) (y : Hearing) → Contains (by_end hs) y → Contains hs y
sorted_from [] y there = there
sorted_from (h ∷ hs) y there = elim (put_cases h (by_end hs) y there) [
  | inl same ↦ subst (Contains (h ∷ hs)) same (contains_head h hs)
  | inr old ↦ contains_tail h hs y (sorted_from hs y old)
]

sorted_distinct : (hs : List Hearing) → Distinct hs → Distinct (by_end hs)
sorted_distinct [] all = tt
sorted_distinct (h ∷ hs) all = put_distinct h (by_end hs) (λ there. all.0 (sorted_from hs h there)) (sorted_distinct hs all.1)

-- ---- receptions of one node

module _ (s : ScenarioParts) (clocks : ℕ → ℕ → ℕ) (air : List Entry) (run : IsObedientRun s clocks air) (lawful : Lawful s clocks air) (v : ℕ) where
  -- what ends at one tick came over one channel
  pub one_channel : (x y : Sending) → HasHeardEntry air v x → HasHeardEntry air v y → x.end ≡ y.end → x.rank ≡ y.rank
  one_channel x y first second same =
      let a = run.heedful.heard v x first in
      let b = run.heedful.heard v y second in
      let x_lasts = sent_lasts s clocks air run.heedful.trails x a.sent in
      let y_lasts = sent_lasts s clocks air run.heedful.trails y b.sent in
      let x_some = profile_lasts s.profile run.driven.sound.profile (length x.packet) in
      let y_some = profile_lasts s.profile run.driven.sound.profile (length y.packet) in
      let k : ℕ = x.end - 1 in
      let on_x : ListensSince x.rank k (device_in s clocks air v (suc k)) =
      tuned_listens s clocks air run.heedful.trails v x.rank k (a.tuned k (omega (arith, x_lasts.1, x_some)) (omega (arith, x_lasts.1, x_some))) in
      let on_y : ListensSince y.rank k (device_in s clocks air v (suc k)) =
      tuned_listens s clocks air run.heedful.trails v y.rank k
      (b.tuned k (omega (arith, y_lasts.1, y_some, same)) (omega (arith, y_lasts.1, y_some, same))) in
      let of_x : channel_if_on (device_in s clocks air v (suc k)).listening ≡ Some x.rank = ap (λ (l : Option Listening). channel_if_on l) on_x.is
      ∙ ap (λ (r : ℕ). Some r) on_x.channel in
      let of_y : channel_if_on (device_in s clocks air v (suc k)).listening ≡ Some y.rank = ap (λ (l : Option Listening). channel_if_on l) on_y.is
      ∙ ap (λ (r : ℕ). Some r) on_y.channel in
      same_Some x.rank y.rank (sym of_x ∙ of_y)

  -- and is one, if it is the same packet
  pub same_heard : (x y : Sending) → HasHeardEntry air v x → HasHeardEntry air v y → x.end ≡ y.end → x.packet ≡ y.packet → x ≡ y
  same_heard x y first second same packet =
      let a = ((lawful.hearing.heard v x).0 first).1 in
      let b = ((lawful.hearing.heard v y).0 second).1 in
      let x_lasts = (sent_lasts s clocks air run.heedful.trails x a.sent).1 in
      let y_lasts = (sent_lasts s clocks air run.heedful.trails y b.sent).1 in
      let x_some = profile_lasts s.profile run.driven.sound.profile (length x.packet) in
      let y_some = profile_lasts s.profile run.driven.sound.profile (length y.packet) in
      let rank = one_channel x y first second same in
      let meets : Meets x y = record { before = omega (arith, x_lasts, x_some, same); after = omega (arith, y_lasts, y_some, same) } in
      let back : Meets y x = record { before = omega (arith, y_lasts, y_some, same); after = omega (arith, x_lasts, x_some, same) } in
      let one : Before x y = a.first y (record { sent = b.sent; channel = sym rank; meets = meets; arrives = b.arrives }) (sym packet) in
      let two : Before y x = b.first x (record { sent = a.sent; channel = rank; meets = back; arrives = a.arrives }) packet in
      let start : x.start ≡ y.start = (let from = one.start in let to = two.start in omega (arith, from, to)) in
      let node : x.node ≡ y.node = (let from = one.node start in let to = two.node (sym start) in omega (arith, from, to)) in
      same_sending x y rank node start same packet

  -- so no reception is there twice
  pub distinct_receptions : (t : ℕ) → Distinct (ending_at t (heard_by air v))
  distinct_receptions t =
      let all : Distinct (hearings_of air) = distinct_from_pairs (hearings_of air) lawful.hearing.once in
      let own : Distinct (hearings_by air v) = filter_distinct (λ (h : Hearing). h.node == v) (hearings_of air) all in
      filter_distinct (λ (h : Reception). h.end == t) (heard_by air v)
      (map_distinct reception_of (by_end (hearings_by air v)) tells (sorted_distinct (hearings_by air v) own))
    where
      of_v : (g : Hearing) → Contains (by_end (hearings_by air v)) g → HasHeardEntry air v g.sending × (g.node ≡ v)
      of_v g there =
          let both = filtered (λ (h : Hearing). h.node == v) (hearings_of air) g (sorted_from (hearings_by air v) g there) in
          let node : g.node ≡ v = eqb-true g.node v both.1 in
          (subst (λ (u : ℕ). Contains (hearings_of air) (record { node = u; sending = g.sending })) node both.0, node)

      of_parts : ℕ → Sending → Hearing
      of_parts node sending = record { node = node; sending = sending }

      tells : (a b : Hearing) → Contains (by_end (hearings_by air v)) a → Contains (by_end (hearings_by air v)) b → reception_of a ≡ reception_of b → a ≡ b
      tells a b first second same =
          let x = of_v a first in
          let y = of_v b second in
          let sending : a.sending ≡ b.sending = same_heard a.sending b.sending x.0 y.0 (ap (λ (h : Reception). h.end) same)
          (ap (λ (h : Reception). h.packet) same) in
          ap (λ (u : ℕ). of_parts u a.sending) (x.1 ∙ sym y.1) ∙ ap (λ (z : Sending). of_parts b.node z) sending
