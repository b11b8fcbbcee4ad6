-- The transmissions and receptions of a slot, taken from those of a log.
use Rattle.std.proofs.Common.{◌≡◌, ℕ, List, Bool, true, ◌==◌, Contains, filter, refl, eq-eqb, eqb-true}
use Rattle.std.proofs.lemmas.Bool.{and_parts}
use Rattle.lwb_base.specs.Profile.{Numbers}
use Rattle.radio_model.specs.declared.sending.Sending.{Sending}
use Rattle.radio_model.specs.OnAir.{Hearing}
use Rattle.radio_model.specs.Hearing.{frame_of_sending, slot_of_sending}
use Rattle.lwb_base.proofs.Elements.{in_filtered, filtered}
use Rattle.law_bus.specs.SlotRun.{is_sending_of_slot}

module _ (p : Numbers) (rank f j : ℕ) where
  abbrev pub IsOf : Sending → Type 0
  IsOf x = (x.rank ≡ rank) × (frame_of_sending p x ≡ f) × (slot_of_sending x ≡ j)

  is_so : (x : Sending) → is_sending_of_slot p rank f j x ≡ true → IsOf x
  is_so x is =
      let first = and_parts (x.rank == rank) _ is in
      let more = and_parts (frame_of_sending p x == f) _ first.1 in
      (eqb-true x.rank rank first.0, eqb-true (frame_of_sending p x) f more.0, eqb-true (slot_of_sending x) j more.1)

  test_so : (x : Sending) → IsOf x → is_sending_of_slot p rank f j x ≡ true
  test_so x is = rw (eq-eqb x.rank rank is.0, eq-eqb (frame_of_sending p x) f is.1, eq-eqb (slot_of_sending x) j is.2) refl

  pub of_slot : (xs : List Sending) (x : Sending) → Contains (filter (is_sending_of_slot p rank f j) xs) x → Contains xs x × IsOf x
  of_slot xs x there = let both = filtered (is_sending_of_slot p rank f j) xs x there in (both.0, is_so x both.1)

  pub in_slot : (xs : List Sending) (x : Sending) → Contains xs x → IsOf x → Contains (filter (is_sending_of_slot p rank f j) xs) x
  in_slot xs x there is = in_filtered (is_sending_of_slot p rank f j) xs x there (test_so x is)

  abbrev heard_of : Hearing → Bool
  heard_of h = is_sending_of_slot p rank f j h.sending

  pub heard_in_slot : (hs : List Hearing) (h : Hearing) → Contains (filter heard_of hs) h → Contains hs h × IsOf h.sending
  heard_in_slot hs h there = let both = filtered heard_of hs h there in (both.0, is_so h.sending both.1)

  pub in_heard : (hs : List Hearing) (h : Hearing) → Contains hs h → IsOf h.sending → Contains (filter heard_of hs) h
  in_heard hs h there is = in_filtered heard_of hs h there (test_so h.sending is)
