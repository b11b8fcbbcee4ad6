-- What the medium holds after a transmission ends.
use Rattle.std.proofs.Common.{◌≡◌, ℕ, zero, suc, ◌+◌, ◌-◌, ◌*◌, ◌≤◌, ◌⊎◌, inl, inr, List, [], ◌∷◌, ◌++◌, length, drop, ◌==◌, Option, Some}
use Rattle.std.proofs.Common.{None, option_to_list, refl, sym, ◌∙◌, ap, subst, arith, Contains, append-nil, length-append}
use Rattle.std.proofs.lemmas.Bool.{cond_both, cases_lt, eqb-true}
use Rattle.std.proofs.Math.Nat.{mul-le-mul_right}
use Rattle.std.proofs.lemmas.List.Elements.{Contains-append_cases, All-contains}
use Rattle.circular_buffer.specs.Buffer.{Buffer, keep_last}
use Rattle.lwb_base.specs.Profile.{Numbers}
use Rattle.radio_model.specs.OnAir.{Sending}
use Rattle.radio_model.specs.Hearing.{Scene}
use Rattle.radio_model.specs.Stations.{MediumState, IsMedium, station_of, sending_of_station, on_air, station_after_end, with_ended, medium_after_change}
use Rattle.radio_model.specs.Stations.{station_changed_at, Ends}
use Rattle.radio_model.specs.Holding.{Holds, IsOrderly, IsOwn, InTurn, longest, shortest}
use Rattle.radio_model.specs.declared.station.Station.{Station}
use Rattle.lwb_base.proofs.Elements.{not_in_none, contains_head, contains_tail, contains_cases}
use Rattle.radio_model.proofs.Changes.{finished_keeps}
use Rattle.radio_model.proofs.Tunings.{Tells, tells_later}
use Rattle.radio_model.proofs.Scenes.{Lit}
use Rattle.radio_model.proofs.Retuned.{order_later}
use Rattle.radio_model.proofs.OneCall.{found_member, tells_by, right_by, each_after, ascend_after, is_there}
use Rattle.radio_model.proofs.AfterTuning.{orderly_later}

-- how many are forgotten
abbrev forgotten : Buffer Sending → Option Sending → ℕ
forgotten b None = zero
forgotten b (Some x) = length (b.items ++ x ∷ []) - b.capacity

air_less : (b : Buffer Sending) (o : Option Sending) → (with_ended b o).items ++ [] ≡ drop (forgotten b o) (b.items ++ option_to_list o)
air_less b None = refl
air_less b (Some x) = append-nil (keep_last b.capacity (b.items ++ x ∷ []))

in_drop : (k : ℕ) (ys : List Sending) (y : Sending) → Contains (drop k ys) y → Contains ys y
in_drop zero ys y there = there
in_drop (suc k) [] y there = absurd (not_in_none y there)
in_drop (suc k) (z ∷ ys) y there = contains_tail z ys y (in_drop k ys y there)

turn_from : (from : ℕ) (ys : List Sending) → InTurn from ys → InTurn 0 ys
turn_from from [] turn = tt
turn_from from (y ∷ ys) turn = (omega arith, turn.1)

turn_drop : (k from : ℕ) (ys : List Sending) → InTurn from ys → InTurn 0 (drop k ys)
turn_drop zero from ys turn = turn_from from ys turn
turn_drop (suc k) from [] turn = tt
turn_drop (suc k) from (y ∷ ys) turn = turn_drop k y.end ys turn.1

-- each lasts at least so long
module _ (s : ℕ) where
  abbrev Lasting : List Sending → Type 0
  Lasting ys = (y : Sending) → Contains ys y → y.start + s ≤ y.end

  -- all of them but the last this many ended this many least lengths before the last
  ends_after : (from : ℕ) (ys : List Sending) (x : Sending) → InTurn from (ys ++ x ∷ []) → Lasting (ys ++ x ∷ []) → from + (length ys + 1) * s ≤ x.end
  ends_after from [] x turn lasting = let one = lasting x (contains_head x []) in let first = turn.0 in omega arith
  ends_after from (y ∷ ys) x turn lasting =
      let one = lasting y (contains_head y (ys ++ x ∷ [])) in
      let first = turn.0 in
      omega (arith, ends_after y.end ys x turn.1 (λ z there. lasting z (contains_tail y (ys ++ x ∷ []) z there)))

  pub kept_or_over : (k from : ℕ) (ys : List Sending) (x y : Sending) → InTurn from (ys ++ x ∷ []) → Lasting (ys ++ x ∷ []) → Contains (ys ++ x ∷ []) y
      → k ≤ length ys
      → Contains (drop k (ys ++ x ∷ [])) y ⊎ (y.end + (length ys + 1 - k) * s ≤ x.end)
  kept_or_over zero from ys x y turn lasting there few = inl there
  kept_or_over (suc k) from [] x y turn lasting there few = absurd (omega arith)
  kept_or_over (suc k) from (z ∷ ys) x y turn lasting there few =
      elim (contains_cases z (ys ++ x ∷ []) y there) [
        | inl is ↦
            inr (subst (λ (w : Sending). w.end + (length (z ∷ ys) + 1 - suc k) * s ≤ x.end) is
            (let all = ends_after z.end ys x turn.1 (λ w in_it. lasting w (contains_tail z (ys ++ x ∷ []) w in_it)) in
            let fewer : (length (z ∷ ys) + 1 - suc k) * s ≤ (length ys + 1) * s = mul-le-mul_right s (omega arith) in
            omega arith))
        | inr rest ↦
            elim (kept_or_over k z.end ys x y turn.1 (λ w in_it. lasting w (contains_tail z (ys ++ x ∷ []) w in_it)) rest (omega arith)) [
              | inl kept ↦ inl kept
              | inr over ↦ inr (subst (λ (n : ℕ). y.end + n * s ≤ x.end) (omega arith) over)
            ]
      ]

lasts_least : (p : Numbers) (v : ℕ) (y : Sending) → IsOwn p v y → y.start + shortest p ≤ y.end
lasts_least p v y own =
    let lasts = own.lasts in
    let short = own.short in
    let least : (3 + 8) * p.byte ≤ (length y.packet + 8) * p.byte = mul-le-mul_right p.byte (omega arith) in
    omega arith

-- what a station forgets when its transmission ends at t has been over for long
module _ (p : Numbers) (now t : ℕ) (st : Station) (room : st.ended.capacity ≡ 13) (is : IsOrderly p now st)
    (ends : (x : Sending) → st.sending ≡ Some x → x.end ≡ t) where
  kept_by : (o : Option Sending) → st.sending ≡ o → (y : Sending) → Contains (on_air st) y
      → Contains ((with_ended st.ended o).items ++ []) y ⊎ (y.end + longest p ≤ t)
  kept_by None same y there = inl (subst (λ (q : Option Sending). Contains (st.ended.items ++ option_to_list q) y) same there)
  kept_by (Some x) same y there =
      let air : on_air st ≡ st.ended.items ++ x ∷ [] = ap (λ (q : Option Sending). st.ended.items ++ option_to_list q) same in
      let turn : InTurn 0 (st.ended.items ++ x ∷ []) = subst (InTurn 0) air is.in_turn in
      let lasting : Lasting (shortest p) (st.ended.items ++ x ∷ []) =
      λ z in_it. lasts_least p st.node z (is.own z (subst (λ (l : List Sending). Contains l z) (sym air) in_it)) in
      let in_it : Contains (st.ended.items ++ x ∷ []) y = subst (λ (l : List Sending). Contains l y) air there in
      let k : ℕ = length (st.ended.items ++ x ∷ []) - st.ended.capacity in
      let long : length (st.ended.items ++ x ∷ []) ≡ length st.ended.items + 1 = length-append st.ended.items (x ∷ []) in
      let end = ends x same in
      elim (cases_lt (length st.ended.items) 13) [
        | inl few ↦
            let none : k ≡ 0 = omega arith in
            inl (subst (λ (l : List Sending). Contains l y) (sym (air_less st.ended (Some x)))
            (subst (λ (n : ℕ). Contains (drop n (st.ended.items ++ x ∷ [])) y) (sym none) in_it))
        | inr full ↦
            elim (kept_or_over (shortest p) k 0 st.ended.items x y turn lasting in_it (omega arith)) [
              | inl kept ↦ inl (subst (λ (l : List Sending). Contains l y) (sym (air_less st.ended (Some x))) kept)
              | inr over ↦
                  let thirteen : length st.ended.items + 1 - k ≡ 13 = omega arith in
                  let by : y.end + 13 * shortest p ≤ x.end = subst (λ (n : ℕ). y.end + n * shortest p ≤ x.end) thirteen over in
                  inr (omega arith)
            ]
      ]

  pub kept_finished : (y : Sending) → Contains (on_air st) y → Contains (on_air (station_after_end st)) y ⊎ (y.end + longest p ≤ t)
  kept_finished y there = kept_by st.sending refl y there

  pub air_back : (y : Sending) → Contains (on_air (station_after_end st)) y → Contains (on_air st) y
  air_back y there = in_drop (forgotten st.ended st.sending) (on_air st) y (subst (λ (l : List Sending). Contains l y) (air_less st.ended st.sending) there)

  over_by_now : (o : Option Sending) → st.sending ≡ o → now ≤ t → (y : Sending) → Contains (with_ended st.ended o).items y → y.end ≤ t
  over_by_now None same later y there = let by = is.over y there in omega arith
  over_by_now (Some x) same later y there =
      elim (Contains-append_cases st.ended.items (x ∷ []) y
      (in_drop (length (st.ended.items ++ x ∷ []) - st.ended.capacity) (st.ended.items ++ x ∷ []) y there)) [
        | inl old ↦ let by = is.over y old in omega arith
        | inr new ↦ elim (contains_cases x [] y new) [
          | inl at ↦ omega (arith, ap (λ (z : Sending). z.end) at, ends x same)
          | inr none ↦ absurd (not_in_none y none)
        ]
      ]

  pub orderly_finished : now ≤ t → IsOrderly p t (station_after_end st)
  orderly_finished later = record {
    own = λ y there. is.own y (air_back y there);
    in_turn = subst (InTurn 0) (sym (air_less st.ended st.sending)) (turn_drop (forgotten st.ended st.sending) 0 (on_air st) is.in_turn);
    over = over_by_now st.sending refl later;
    tunings = order_later now t st.tuning.now st.tuning.last later is.tunings;
  }

module _ (m : MediumState) (is : IsMedium m) (a : Scene) (h : Holds m a) (v t : ℕ) (later : m.now ≤ t) (sends : Ends m v t) where
  room_of : (st : Station) → Contains m.stations st → st.ended.capacity ≡ 13
  room_of st there = All-contains (λ (s : Station). s.ended.capacity ≡ 13) m.stations st is.rooms there

  ends_of : (st : Station) → Contains m.stations st → st.node ≡ v → (x : Sending) → st.sending ≡ Some x → x.end ≡ t
  ends_of st there node x same =
      let found : station_of m v ≡ Some st = ap (station_of m) (sym node) ∙ found_member m.stations st is.nodes.ascending there in
      let runs : st.sending ≡ Some sends.sending = sym (ap sending_of_station found) ∙ sends.runs in
      let one : x ≡ sends.sending = some_same x sends.sending (sym same ∙ runs) in
      ap (λ (z : Sending). z.end) one ∙ sends.until
    where
      some_same : (w z : Sending) → (let q : Option Sending = Some w in q ≡ Some z) → w ≡ z
      some_same w z is = cc

  abbrev now_tells : Station → Type 0
  now_tells s = Tells (Lit a s.node) s.tuning.now s.tuning.last t

  still : (st : Station) → Contains m.stations st → now_tells st
  still st there = tells_later (Lit a st.node) st.tuning.now st.tuning.last m.now t later (tells_by m a is.nodes.ascending st there m.now (h.tuned st there))

  abbrev held : Station → Type 0
  held s = (y : Sending) → Contains (on_air s) y → Contains a.sendings y

  held_old : (st : Station) → Contains m.stations st → held st
  held_old st there y kept = h.sent y (record { station = st; there = there; kept = kept })

  stays : (st : Station) → Contains m.stations st → (y : Sending) → Contains (on_air st) y
      → Contains (on_air (station_changed_at v station_after_end st)) y ⊎ (y.end + longest m.numbers ≤ t)
  stays st there y kept =
      cond_both (st.node == v) (station_after_end st) st (λ (s : Station). Contains (on_air s) y ⊎ (y.end + longest m.numbers ≤ t))
      (λ same. kept_finished m.numbers m.now t st (room_of st there) (h.orderly st there) (ends_of st there (eqb-true st.node v same)) y kept)
      (λ _. inl kept)

  pub holds_after_ending : Holds (medium_after_change t v station_after_end m) a
  holds_after_ending = record {
    numbers = h.numbers;
    orderly = each_after m is station_after_end finished_keeps v t (IsOrderly m.numbers t)
        (λ st there node. orderly_finished m.numbers m.now t st (room_of st there) (h.orderly st there) (ends_of st there node) later)
        (λ st there other. orderly_later m.numbers m.now t st st later (h.orderly st there) refl refl refl
        (order_later m.now t st.tuning.now st.tuning.last later (h.orderly st there).tunings));
    known = λ y there. elim (h.known y there) [
      | inl kept ↦ elim (stays kept.station kept.there y kept.kept) [
        | inl on ↦
            inl (record {
              station = station_changed_at v station_after_end kept.station;
              there = is_there m is station_after_end finished_keeps v t kept.station kept.there;
              kept = on;
            })
        | inr over ↦ inr over
      ]
      | inr over ↦ inr (omega arith)
    ];
    sent = λ y kept. each_after m is station_after_end finished_keeps v t held
        (λ st there node z on. held_old st there z (air_back m.numbers m.now t st (room_of st there) (h.orderly st there) (ends_of st there node) z on))
        (λ st there other. held_old st there) kept.station kept.there y kept.kept;
    past = λ k there. let by = h.past k there in omega arith;
    tuned = λ st there. right_by (medium_after_change t v station_after_end m) a (ascend_after m is station_after_end finished_keeps v t) st there t
        (each_after m is station_after_end finished_keeps v t now_tells (λ s old node. still s old) (λ s old other. still s old) st there);
  }
