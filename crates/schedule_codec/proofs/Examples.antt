-- The definitions at worked values.
use Rattle.std.proofs.Common.{◌≡◌, ℕ, List, [], ◌∷◌, length, Some, None, refl, replicate}
use Rattle.lwb_base.specs.Messages.{Schedule}
use Rattle.schedule_codec.specs.Packing.{packed_number, digits}
use Rattle.schedule_codec.specs.OwnerLists.{least_passing, owners_bytes}
use Rattle.schedule_codec.specs.Spelling.{schedule_spelling}
use Rattle.schedule_codec.specs.Reading.{schedule_of, asks_in}

abbrev opening : List ℕ → Schedule
opening owners = record { gap = 0; plan = record { rank = 0; boot = 1; contend = 0; acks = []; owners = owners } }

three_owners : schedule_spelling (opening (4 ∷ 4 ∷ 9 ∷ [])) 0 0 ≡ 1 ∷ 0 ∷ 0 ∷ 0 ∷ 1 ∷ 0 ∷ 0 ∷ 0 ∷ 0 ∷ 3 ∷ 0 ∷ 0x43 ∷ 0x14 ∷ []
unfolding packed_number digits least_passing
three_owners = refl

read_again : schedule_of (1 ∷ 0 ∷ 0 ∷ 0 ∷ 1 ∷ 0 ∷ 0 ∷ 0 ∷ 0 ∷ 3 ∷ 0 ∷ 0x43 ∷ 0x14 ∷ []) ≡ Some (opening (4 ∷ 4 ∷ 9 ∷ []))
unfolding packed_number digits least_passing schedule_of
read_again = refl

wider : schedule_of (1 ∷ 0 ∷ 0 ∷ 0 ∷ 1 ∷ 0 ∷ 0 ∷ 0 ∷ 0 ∷ 3 ∷ 0 ∷ 0x44 ∷ 0x05 ∷ []) ≡ None
unfolding packed_number digits least_passing schedule_of
wider = refl

longest : length (owners_bytes (4 ∷ replicate 39 803)) ≡ 52
unfolding packed_number digits least_passing
longest = refl

abbrev closing : Schedule
closing = record {
  gap = 4;
  plan = record {
    rank = 0;
    boot = 1;
    contend = 2;
    acks = record { node = 2; boot = 1; stream = 0; interval = 5 } ∷ record { node = 3; boot = 1; stream = 0; interval = 5 } ∷ [];
    owners = 8 ∷ 8 ∷ 8 ∷ 8 ∷ 12 ∷ 12 ∷ 12 ∷ 12 ∷ [];
  };
}

two_slots : schedule_spelling closing 3 0 ≡ 4 ∷ 3 ∷ 0 ∷ 4 ∷ 1 ∷ 0x12 ∷ 2 ∷ 1 ∷ 0 ∷ 5 ∷ 3 ∷ 1 ∷ 0 ∷ 5 ∷ 8 ∷ 0 ∷ 0x83 ∷ 0 ∷ 0x40 ∷ 0 ∷ []
unfolding packed_number digits least_passing
two_slots = refl

two_slots_read : schedule_of (4 ∷ 3 ∷ 0 ∷ 4 ∷ 1 ∷ 0x12 ∷ 2 ∷ 1 ∷ 0 ∷ 5 ∷ 3 ∷ 1 ∷ 0 ∷ 5 ∷ 8 ∷ 0 ∷ 0x83 ∷ 0 ∷ 0x40 ∷ 0 ∷ []) ≡ Some closing
unfolding packed_number digits least_passing schedule_of asks_in
two_slots_read = refl
