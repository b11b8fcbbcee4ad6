-- The deliveries of packets, counted.
use Rattle.std.proofs.Common.{◌≡◌, ◌+◌, ◌&&◌, ℕ, List, [], ◌∷◌, Bool, true, false, cond, Option, Some, count_by, filter, nat_lt, ◌||◌, add-zero, refl, sym}
use Rattle.std.proofs.Common.{◌∙◌, ap, arith}
use Rattle.std.proofs.lemmas.Bool.{lt-ltb}
use Rattle.std.proofs.lemmas.List.Sums.{sum_by-cons}
use Rattle.std.specs.BTreeMap.{is_at}
use Rattle.std.specs.List.{list_any}
use Rattle.std.specs.Map.{count_at}
use Rattle.bus_rules.specs.declared.delivery.Delivery.{Delivery}
use Rattle.bus_terms.specs.Fates.{is_at_host, is_packet, packet_delivered}
use Rattle.bus_terms.specs.declared.packets.PacketId.{PacketId}
use Rattle.bus_terms.proofs.SamePackets.{packet_itself, same_packet}
use Rattle.packet_fates.specs.PacketOrder.{packet_cmp}
use Rattle.packet_fates.specs.Tables.{is_received}
use Rattle.packet_fates.proofs.CountedKeys.{counted_one}
use Rattle.packet_fates.proofs.FirstOnes.{packet_flips}
use Rattle.packet_fates.proofs.PacketOrders.{packet_tied}

packet_turned : (x y : PacketId) → is_packet x y ≡ is_packet y x
packet_turned x y = by_case (is_packet x y) refl
  where
    by_case : (b : Bool) → is_packet x y ≡ b → is_packet x y ≡ is_packet y x
    by_case true is = is ∙ sym (packet_itself y) ∙ ap (is_packet y) (sym (same_packet x y is))
    by_case false is = is ∙ sym (packet_flips x y is)

module _ (before after : PacketId → Option ℕ) (k : PacketId)
    (written : (x : PacketId) → after x ≡ cond (is_at (packet_cmp k) x) (Some (count_at before k + 1)) (before x)) where
  -- a delivery of the packet k more
  pub delivery_counted : (d : Delivery) → k ≡ packet_delivered d → (x : PacketId)
      → count_at after x ≡ count_at before x + cond (is_packet x (packet_delivered d)) 1 0
  delivery_counted d is x =
      counted_one packet_cmp is_packet packet_tied same_packet before after k written x
      ∙ ap (λ (b : Bool). count_at before x + cond b 1 0) (packet_turned k x ∙ ap (is_packet x) is)

  -- at the host of its round
  pub received_counted : (hosts : List ℕ) (d : Delivery) → is_at_host hosts d ≡ true → k ≡ packet_delivered d → (x : PacketId)
      → count_at after x ≡ count_at before x + cond (is_received hosts x d) 1 0
  received_counted hosts d there is x =
      delivery_counted d is x ∙ ap (λ (b : Bool). count_at before x + cond (b && is_packet x (packet_delivered d)) 1 0) (sym there)

-- or elsewhere
pub elsewhere_counted : (before : PacketId → Option ℕ) (hosts : List ℕ) (d : Delivery) → is_at_host hosts d ≡ false → (x : PacketId)
    → count_at before x ≡ count_at before x + cond (is_received hosts x d) 1 0
elsewhere_counted before hosts d not x =
    sym (add-zero (count_at before x)) ∙ ap (λ (b : Bool). count_at before x + cond (b && is_packet x (packet_delivered d)) 1 0) (sym not)

-- some pass both tests
pub some_pass_both : {X : Type 0} (p q : X → Bool) (xs : List X) → nat_lt 0 (count_by (λ x. p x && q x) xs) ≡ list_any p (filter q xs)
some_pass_both p q [] = refl
some_pass_both {X} p q (x ∷ xs) =
    ap (nat_lt 0) (sum_by-cons (λ (y : X). cond (p y && q y) 1 0) x xs) ∙ by_tests (p x) (q x) refl (some_pass_both p q xs)
  where
    nothing : 0 + count_by (λ (y : X). p y && q y) xs ≡ count_by (λ (y : X). p y && q y) xs
    nothing = omega arith

    by_tests : (a b : Bool) → p x ≡ a → nat_lt 0 (count_by (λ (y : X). p y && q y) xs) ≡ list_any p (filter q xs)
        → nat_lt 0 (cond (a && b) 1 0 + count_by (λ (y : X). p y && q y) xs) ≡ list_any p (cond b (x ∷ filter q xs) (filter q xs))
    by_tests true true is rest = lt-ltb 0 (1 + count_by (λ (y : X). p y && q y) xs) (omega arith) ∙ sym (ap (λ (b : Bool). b || list_any p (filter q xs)) is)
    by_tests true false is rest = ap (nat_lt 0) nothing ∙ rest
    by_tests false true is rest = ap (nat_lt 0) nothing ∙ rest ∙ sym (ap (λ (b : Bool). b || list_any p (filter q xs)) is)
    by_tests false false is rest = ap (nat_lt 0) nothing ∙ rest
