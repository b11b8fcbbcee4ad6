-- Deliveries by frame, rank, slot and node.
use Rattle.std.proofs.Common.{◌≡◌, ℕ, ◌<◌, Bool, true, Ordering, Equal, sym, ◌∙◌, ap, true≢false}
use Rattle.std.specs.Cmp.{IsStrictWeakOrder}
use Rattle.std.specs.List.Sorted.{ties}
use Rattle.std.specs.Ordering.{nat_cmp, ordering_then, is_lt}
use Rattle.std.proofs.lemmas.List.Sorted.{ranks_by}
use Rattle.lwb_base.proofs.Orders.{compares_less, by_four_total, compares_equal, one_number}
use Rattle.lwb_base.proofs.Truths.{both_not}
use Rattle.bus_rules.specs.declared.delivery.Delivery.{Delivery}
use Rattle.air_log.specs.Deliveries.{delivery_comes_before}

-- what the order goes by
abbrev pub place_of : Delivery → ℕ × ℕ × ℕ × ℕ
place_of d = (d.frame, d.rank, d.slot, d.node)

pub is_order : IsStrictWeakOrder delivery_comes_before
is_order = ranks_by by_four_total place_of

abbrev pub Before : Delivery → Delivery → Type 0
Before a b = delivery_comes_before a b ≡ true

module _ (a b : Delivery) where
  abbrev then_so : Ordering → Ordering → Ordering → Ordering → Bool
  then_so c d e g = is_lt (ordering_then (ordering_then (ordering_then c d) e) g)

  pub by_frame : a.frame < b.frame → Before a b
  by_frame less = ap (λ (c : Ordering). then_so c (nat_cmp a.rank b.rank) (nat_cmp a.slot b.slot) (nat_cmp a.node b.node)) (compares_less a.frame b.frame less)

  pub by_rank : a.frame ≡ b.frame → a.rank < b.rank → Before a b
  by_rank frame less =
      ap (λ (c : Ordering). then_so c (nat_cmp a.rank b.rank) (nat_cmp a.slot b.slot) (nat_cmp a.node b.node)) (compares_equal a.frame b.frame frame)
      ∙ ap (λ (c : Ordering). then_so Equal c (nat_cmp a.slot b.slot) (nat_cmp a.node b.node)) (compares_less a.rank b.rank less)

  pub by_slot : a.frame ≡ b.frame → a.rank ≡ b.rank → a.slot < b.slot → Before a b
  by_slot frame rank less =
      ap (λ (c : Ordering). then_so c (nat_cmp a.rank b.rank) (nat_cmp a.slot b.slot) (nat_cmp a.node b.node)) (compares_equal a.frame b.frame frame)
      ∙ ap (λ (c : Ordering). then_so Equal c (nat_cmp a.slot b.slot) (nat_cmp a.node b.node)) (compares_equal a.rank b.rank rank)
      ∙ ap (λ (c : Ordering). then_so Equal Equal c (nat_cmp a.node b.node)) (compares_less a.slot b.slot less)

  pub by_node : a.frame ≡ b.frame → a.rank ≡ b.rank → a.slot ≡ b.slot → a.node < b.node → Before a b
  by_node frame rank slot less =
      ap (λ (c : Ordering). then_so c (nat_cmp a.rank b.rank) (nat_cmp a.slot b.slot) (nat_cmp a.node b.node)) (compares_equal a.frame b.frame frame)
      ∙ ap (λ (c : Ordering). then_so Equal c (nat_cmp a.slot b.slot) (nat_cmp a.node b.node)) (compares_equal a.rank b.rank rank)
      ∙ ap (λ (c : Ordering). then_so Equal Equal c (nat_cmp a.node b.node)) (compares_equal a.slot b.slot slot)
      ∙ ap (λ (c : Ordering). then_so Equal Equal Equal c) (compares_less a.node b.node less)

-- of one frame, rank, slot and node
pub record SamePlace (a b : Delivery) : Type 0 where
  pub frame : a.frame ≡ b.frame
  pub rank : a.rank ≡ b.rank
  pub slot : a.slot ≡ b.slot
  pub node : a.node ≡ b.node

pub tied_place : (a b : Delivery) → ties delivery_comes_before a b ≡ true → SamePlace a b
tied_place a b tied =
    let so = both_not (delivery_comes_before a b) (delivery_comes_before b a) tied in
    let up : Before a b → ⊥ = λ is. true≢false (sym is ∙ so.0) in
    let down : Before b a → ⊥ = λ is. true≢false (sym is ∙ so.1) in
    let frame = one_number a.frame b.frame (λ less. up (by_frame a b less)) (λ less. down (by_frame b a less)) in
    let rank = one_number a.rank b.rank (λ less. up (by_rank a b frame less)) (λ less. down (by_rank b a (sym frame) less)) in
    let slot = one_number a.slot b.slot (λ less. up (by_slot a b frame rank less)) (λ less. down (by_slot b a (sym frame) (sym rank) less)) in
    let node = one_number a.node b.node (λ less. up (by_node a b frame rank slot less)) (λ less. down (by_node b a (sym frame) (sym rank) (sym slot) less)) in
    record { frame = frame; rank = rank; slot = slot; node = node }
