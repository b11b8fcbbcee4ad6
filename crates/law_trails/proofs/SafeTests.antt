-- The clauses of *Safe* by tests of the transmissions of a log and of pairs of them.
use Rattle.std.proofs.Common.{◌≡◌, ℕ, ◌+◌, List, [], ◌∷◌, Bool, true, false, not, ◌==◌, ◌&&◌, ◌||◌, nat_lt, nat_le, Option, Some, None, Contains, All, AllPairs}
use Rattle.std.proofs.Common.{refl, sym, ◌∙◌, ap, arith, inl, inr, true≢false, eqb-true, ltb-true, lt-ltb, slice_get}
use Rattle.std.specs.List.{list_all}
use Rattle.std.specs.Str.{bytes_eq}
use Rattle.std.proofs.lemmas.Bool.{and_parts, and_from, leb-true, eq-eqb, or_cases}
use Rattle.std.proofs.lemmas.List.Elements.{All-nil, All-cons}
use Rattle.std.proofs.lemmas.List.Kept.{AllPairs-cons}
use Rattle.lwb_base.proofs.Elements.{all_passes}
use Rattle.lwb_base.proofs.Truths.{implied}
use Rattle.lwb_packets.specs.Body.{body}
use Rattle.lwb_packets.specs.Requests.{is_request}
use Rattle.schedule_codec.specs.Reading.{is_schedule}
use Rattle.schedule_codec.proofs.Readings.{bytes_same}
use Rattle.scenario_text.specs.ScenarioParts.{ScenarioParts}
use Rattle.radio_model.specs.declared.sending.Sending.{Sending}
use Rattle.radio_model.specs.Hearing.{Meets, frame_of_sending, slot_of_sending, counter_of_sending}
use Rattle.air_log.specs.declared.entry.Entry.{Entry}
use Rattle.air_log.specs.Entries.{sendings_of}
use Rattle.air_log.specs.Trails.{frame_start}
use Rattle.air_log.specs.Safe.{WithinOneFrame, NoOverlap, SameButForCounter, OneInitiator, Silence, SameSlot, SameStep, Alike, Begins}

pub no_clash : (a b c : Bool) → not (a && (b && c)) ≡ true → a ≡ true → b ≡ true → c ≡ true → ⊥
no_clash true true true is x y z = true≢false (sym is)
no_clash false b c is x y z = true≢false (sym x)
no_clash true false c is x y z = true≢false (sym y)
no_clash true true false is x y z = true≢false (sym z)

module _ (s : ScenarioParts) where
  abbrev same_slot : Sending → Sending → Bool
  same_slot x y = (x.rank == y.rank) && ((slot_of_sending x == slot_of_sending y) && (frame_of_sending s.profile x == frame_of_sending s.profile y))

  abbrev same_step : Sending → Sending → Bool
  same_step x y = same_slot x y && (counter_of_sending x == counter_of_sending y)

  abbrev meets : Sending → Sending → Bool
  meets x y = (x.rank == y.rank) && (nat_lt x.start y.end && nat_lt y.start x.end)

  abbrev near : Sending → Sending → Bool
  near x y = nat_le x.start (y.start + s.profile.delta) && nat_le y.start (x.start + s.profile.delta)

  abbrev alike : Sending → Sending → Bool
  alike x y = bytes_eq (body x.packet) (body y.packet) && (not (counter_of_sending x == counter_of_sending y) || near x y)

  abbrev begins : Sending → Bool
  begins x = (counter_of_sending x == 0) && not (is_request x.packet)

  abbrev is_in_frame : Sending → Bool
  is_in_frame x = nat_lt x.end (frame_start s (frame_of_sending s.profile x + 1))

  abbrev keep_apart : Sending → Sending → Bool
  keep_apart x y = not (meets x y) || same_step x y

  abbrev are_alike : Sending → Sending → Bool
  are_alike x y = not (same_slot x y) || ((is_request x.packet && is_request y.packet) || alike x y)

  abbrev one_begins : Sending → Sending → Bool
  one_begins x y = not (same_slot x y && (begins x && begins y))

  abbrev each_begins : List Sending → Bool
  each_begins [] = true
  each_begins (x ∷ xs) = list_all (one_begins x) xs && each_begins xs

  abbrev is_named : ℕ → Option ℕ → Bool
  is_named v None = false
  is_named v (Some u) = u == v

  abbrev by_its_host : Sending → Bool
  by_its_host x = not ((counter_of_sending x == 0) && is_schedule x.packet) || is_named x.node (slice_get s.hosts x.rank)

  abbrev says_schedule : Sending → Bool
  says_schedule x = not (counter_of_sending x == 0) || is_schedule x.packet

  abbrev pair_with : (Sending → Sending → Bool) → List Sending → Sending → Bool
  pair_with test xs x = list_all (test x) xs

  abbrev all_pairs : (Sending → Sending → Bool) → List Sending → Bool
  all_pairs test xs = list_all (pair_with test xs) xs

  pair_at : (test : Sending → Sending → Bool) (xs : List Sending) → all_pairs test xs ≡ true → (x y : Sending) → Contains xs x → Contains xs y → test x y ≡ true
  pair_at test xs all x y in_x in_y = all_passes (test x) xs (all_passes (pair_with test xs) xs all x in_x) y in_y

  slot_from : (x y : Sending) → same_slot x y ≡ true → SameSlot s.profile x y
  slot_from x y is =
      let rank = and_parts _ _ is in
      let slot = and_parts _ _ rank.1 in
      record { channel = eqb-true _ _ rank.0; frame = eqb-true _ _ slot.1; slot = eqb-true _ _ slot.0 }

  slot_test : (x y : Sending) → SameSlot s.profile x y → same_slot x y ≡ true
  slot_test x y same = and_from _ _ (eq-eqb _ _ same.channel) (and_from _ _ (eq-eqb _ _ same.slot) (eq-eqb _ _ same.frame))

  step_from : (x y : Sending) → keep_apart x y ≡ true → x.rank ≡ y.rank → Meets x y → SameStep s.profile x y
  step_from x y test channel meet =
      let met : meets x y ≡ true = and_from _ _ (eq-eqb _ _ channel) (and_from _ _ (lt-ltb x.start y.end meet.before) (lt-ltb y.start x.end meet.after)) in
      let both = and_parts _ _ (implied _ _ test met) in
      record { slot = slot_from x y both.0; counter = eqb-true _ _ both.1 }

  alike_from : (x y : Sending) → are_alike x y ≡ true → SameSlot s.profile x y → (is_request x.packet && is_request y.packet) ≡ false → Alike s.profile x y
  alike_from x y test same kinds =
      elim (or_cases _ _ (implied _ _ test (slot_test x y same))) [
        | inl requests ↦ absurd (true≢false (sym requests ∙ kinds))
        | inr is ↦ (let both = and_parts _ _ is in record {
          bytes = bytes_same _ _ both.0;
          together = λ counter. (let starts = and_parts _ _ (implied _ _ both.1 (eq-eqb _ _ counter)) in
              record { below = leb-true _ _ starts.0; above = leb-true _ _ starts.1 });
        })
      ]

  abbrev OneBegins : Sending → Sending → Type 0
  OneBegins x y = SameSlot s.profile x y → Begins x → Begins y → ⊥

  begins_test : (x : Sending) → Begins x → begins x ≡ true
  begins_test x b = and_from _ _ (eq-eqb _ _ b.first) (rw b.no_request refl)

  one_from : (x y : Sending) → one_begins x y ≡ true → OneBegins x y
  one_from x y test same a b = no_clash _ _ _ test (slot_test x y same) (begins_test x a) (begins_test y b)

  one_with : (x : Sending) (ys : List Sending) → list_all (one_begins x) ys ≡ true → All (OneBegins x) ys
  one_with x [] all = All-nil (OneBegins x)
  one_with x (y ∷ ys) all = let both = and_parts _ _ all in All-cons (OneBegins x) y ys (one_from x y both.0) (one_with x ys both.1)

  one_of : (xs : List Sending) → each_begins xs ≡ true → AllPairs OneBegins xs
  one_of [] all = λ i j d less within. absurd (omega (arith, within))
  one_of (x ∷ xs) all = let both = and_parts _ _ all in AllPairs-cons OneBegins x xs (one_with x xs both.0) (one_of xs both.1)

  named_from : (v : ℕ) (o : Option ℕ) → is_named v o ≡ true → o ≡ Some v
  named_from v None is = absurd (true≢false (sym is))
  named_from v (Some u) is = ap (λ (w : ℕ). Some w) (eqb-true u v is)

  host_from : (x : Sending) → by_its_host x ≡ true → counter_of_sending x ≡ 0 → is_schedule x.packet ≡ true → slice_get s.hosts x.rank ≡ Some x.node
  host_from x test first schedule = named_from x.node _ (implied _ _ test (and_from _ _ (eq-eqb _ _ first) schedule))

  -- each clause by its test
  module _ (air : List Entry) where
    pub in_frame_by : list_all is_in_frame (sendings_of air) ≡ true → WithinOneFrame s air
    in_frame_by all = λ x there. ltb-true _ _ (all_passes is_in_frame (sendings_of air) all x there)

    pub apart_by : all_pairs keep_apart (sendings_of air) ≡ true → NoOverlap s air
    apart_by all = λ x y in_x in_y. step_from x y (pair_at keep_apart (sendings_of air) all x y in_x in_y)

    pub alike_by : all_pairs are_alike (sendings_of air) ≡ true → SameButForCounter s air
    alike_by all = λ x y in_x in_y. alike_from x y (pair_at are_alike (sendings_of air) all x y in_x in_y)

    pub one_by : each_begins (sendings_of air) ≡ true → list_all by_its_host (sendings_of air) ≡ true → OneInitiator s air
    one_by begun hosts = record { one = one_of (sendings_of air) begun; host = λ x there. host_from x (all_passes by_its_host (sendings_of air) hosts x there) }

    -- where nothing but schedules begins, silence asks for nothing
    pub silent_by : (clocks : ℕ → ℕ → ℕ) → list_all says_schedule (sendings_of air) ≡ true → Silence s clocks air
    silent_by clocks all = λ x there first other guest.
        absurd (true≢false (sym (implied _ _ (all_passes says_schedule (sendings_of air) all x there) (eq-eqb _ _ first)) ∙ other))
