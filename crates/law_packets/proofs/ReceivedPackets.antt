-- The deliveries of the bus, packet by packet in the order in which they were sent.
use Rattle.std.proofs.Common.{◌≡◌, ℕ, ◌++◌, List, [], ◌∷◌, Bool, true, false, Option, Some, None, filter, filter_map, flat_map}
use Rattle.std.proofs.Common.{refl, sym, ◌∙◌, ap, subst}
use Rattle.std.proofs.lemmas.Bool.{false≢true}
use Rattle.std.proofs.lemmas.Grind.{flat_map-append}
use Rattle.std.proofs.lemmas.List.{append-nil, append_assoc}
use Rattle.std.proofs.lemmas.List.Elements.{filter-append}
use Rattle.std.specs.List.{AllByRecursion, cons_option}
use Rattle.std.specs.Option.{option_map_or}
use Rattle.lwb_base.specs.Messages.{Plan}
use Rattle.lwb_base.proofs.Lists.{each_more}
use Rattle.scenario_text.specs.ScenarioParts.{ScenarioParts}
use Rattle.scenario_text.specs.FloodDrafts.{Climbs}
use Rattle.bus_rules.specs.declared.delivery.Delivery.{Delivery}
use Rattle.bus_terms.specs.Bus.{bus_deliveries, frames_of, ranks_of, state_at}
use Rattle.bus_terms.specs.Fates.{deliveries_of, is_packet, packet_delivered}
use Rattle.bus_terms.specs.FloodOfText.{ids}
use Rattle.bus_terms.specs.Packets.{bus_sent, round_sent, sent_in_slot}
use Rattle.bus_terms.specs.Rounds.{delivery_in_slot, round_deliveries, round_plan, slot_deliveries, slots_of}
use Rattle.bus_terms.specs.declared.packets.SentPacket.{SentPacket}
use Rattle.bus_terms.proofs.ListsInTurn.{each_given, each_of_pieces}
use Rattle.bus_terms.proofs.SamePackets.{packet_itself, same_packet}
use Rattle.law_packets.specs.Sendings.{sending_of}
use Rattle.law_packets.proofs.LaterPackets.{different}
use Rattle.law_packets.proofs.SentPackets.{delivered_was_sent, sent_so}

-- lists of what is given for each element
module _ {X Y : Type 0} (g : X → List Y) where
  joined_pieces : {Z : Type 0} (h : Z → List X) (zs : List Z) → flat_map g (flat_map h zs) ≡ flat_map (λ z. flat_map g (h z)) zs
  joined_pieces h [] = refl
  joined_pieces h (z ∷ zs) = flat_map-append g (h z) (flat_map h zs) ∙ ap (λ (l : List Y). flat_map g (h z) ++ l) (joined_pieces h zs)

same_pieces : {X Y : Type 0} (g h : X → List Y) → ((x : X) → g x ≡ h x) → (xs : List X) → flat_map g xs ≡ flat_map h xs
same_pieces g h same [] = refl
same_pieces g h same (x ∷ xs) = ap (λ (l : List _). l ++ flat_map g xs) (same x) ∙ ap (λ (l : List _). h x ++ l) (same_pieces g h same xs)

-- each y of the piece of x is of x, and no two x are alike: the pieces are what a test finds in all of them
module _ {X Y : Type 0} (g : X → List Y) (test : X → Y → Bool) (alike : X → X → Bool)
    (apart : (x z : X) (y : Y) → alike x z ≡ false → test x y ≡ true → test z y ≡ true → ⊥) where
  abbrev Own : X → Type 0
  Own x = AllByRecursion (λ y. test x y ≡ true) (g x)

  finds_all : (x : X) (ys : List Y) → AllByRecursion (λ y. test x y ≡ true) ys → filter (test x) ys ≡ ys
  finds_all x [] all = refl
  finds_all x (y ∷ ys) all = rw all.0 (ap (λ (l : List Y). y ∷ l) (finds_all x ys all.1))

  finds_none : (x : X) (ys : List Y) → AllByRecursion (λ y. test x y ≡ false) ys → filter (test x) ys ≡ []
  finds_none x [] none = refl
  finds_none x (y ∷ ys) none = rw none.0 (finds_none x ys none.1)

  fails : (b : Bool) → (b ≡ true → ⊥) → b ≡ false
  fails true never = absurd (never refl)
  fails false never = refl

  none_later : (x : X) (xs : List X) → AllByRecursion (λ z. alike x z ≡ false) xs → AllByRecursion Own xs → filter (test x) (flat_map g xs) ≡ []
  none_later x [] other own = refl
  none_later x (z ∷ xs) other own =
      filter-append (test x) (g z) (flat_map g xs)
      ∙ ap (λ (l : List Y). l ++ filter (test x) (flat_map g xs))
      (finds_none x (g z) (each_more (λ y. test z y ≡ true) (λ y. test x y ≡ false) (λ y is. fails (test x y) (λ too. apart x z y other.0 too is)) (g z)
      own.0))
      ∙ none_later x xs other.1 own.1

  -- behind pieces in which none of them finds anything
  found_behind : (ys : List Y) (xs : List X) → AllByRecursion (λ x. filter (test x) ys ≡ []) xs → Climbs (λ x z. alike x z ≡ false) xs
      → AllByRecursion Own xs → flat_map (λ x. filter (test x) (ys ++ flat_map g xs)) xs ≡ flat_map g xs
  found_behind ys [] none differ own = refl
  found_behind ys (x ∷ xs) none differ own =
      ap (λ (l : List Y). l ++ flat_map (λ z. filter (test z) (ys ++ (g x ++ flat_map g xs))) xs) here
      ∙ ap (λ (l : List Y). g x ++ flat_map (λ z. filter (test z) l) xs) (sym (append_assoc ys (g x) (flat_map g xs)))
      ∙ ap (λ (l : List Y). g x ++ l) (found_behind (ys ++ g x) xs (none_in_both xs none.1 differ.0) differ.1 own.1)
    where
      here : filter (test x) (ys ++ (g x ++ flat_map g xs)) ≡ g x
      here =
          filter-append (test x) ys (g x ++ flat_map g xs)
          ∙ ap (λ (l : List Y). l ++ filter (test x) (g x ++ flat_map g xs)) none.0
          ∙ filter-append (test x) (g x) (flat_map g xs)
          ∙ ap (λ (l : List Y). l ++ filter (test x) (flat_map g xs)) (finds_all x (g x) own.0)
          ∙ ap (λ (l : List Y). g x ++ l) (none_later x xs differ.0 own.1)
          ∙ append-nil (g x)

      none_in_both : (zs : List X) → AllByRecursion (λ z. filter (test z) ys ≡ []) zs → AllByRecursion (λ z. alike x z ≡ false) zs
          → AllByRecursion (λ z. filter (test z) (ys ++ g x) ≡ []) zs
      none_in_both [] before other = tt
      none_in_both (z ∷ zs) before other = (
        filter-append (test z) ys (g x)
            ∙ ap (λ (l : List Y). l ++ filter (test z) (g x)) before.0
            ∙ finds_none z (g x) (each_more (λ y. test x y ≡ true) (λ y. test z y ≡ false) (λ y is. fails (test z y) (apart x z y other.0 is)) (g x) own.0),
        none_in_both zs before.1 other.1,
      )

  pub found_by_test : (xs : List X) → Climbs (λ x z. alike x z ≡ false) xs → AllByRecursion Own xs
      → flat_map (λ x. filter (test x) (flat_map g xs)) xs ≡ flat_map g xs
  found_by_test xs differ own = found_behind [] xs (nothing_in_none xs) differ own
    where
      nothing_in_none : (zs : List X) → AllByRecursion (λ z. filter (test z) [] ≡ []) zs
      nothing_in_none [] = tt
      nothing_in_none (z ∷ zs) = (refl, nothing_in_none zs)

module _ (s : ScenarioParts) where
  -- what is delivered in the slot of a packet that is sent
  received_of : SentPacket → List Delivery
  received_of t =
      option_map_or (λ p. slot_deliveries s t.rank t.frame p (state_at s t.frame) t.slot) (round_plan s t.rank t.frame (state_at s t.frame)) []

  abbrev IsOf : SentPacket → Delivery → Type 0
  IsOf t d = is_packet t.packet (packet_delivered d) ≡ true

  module _ (rank f : ℕ) (p : Plan) (planned : round_plan s rank f (state_at s f) ≡ Some p) where
    abbrev sent : ℕ → Option SentPacket
    sent j = sent_in_slot s rank f p (state_at s f) j

    none_sent : (j : ℕ) → sent j ≡ None → slot_deliveries s rank f p (state_at s f) j ≡ []
    none_sent j none = by_nodes (ids s.nodes)
      where
        nothing : (v : ℕ) (o : Option Delivery) → delivery_in_slot s rank f p (state_at s f) j v ≡ o → o ≡ None
        nothing v None is = refl
        nothing v (Some a) is = (let some = delivered_was_sent s rank f p (state_at s f) j v a is in absurd (cc))

        by_nodes : (vs : List ℕ) → filter_map (delivery_in_slot s rank f p (state_at s f) j) vs ≡ []
        by_nodes [] = refl
        by_nodes (v ∷ vs) = rw (nothing v (delivery_in_slot s rank f p (state_at s f) j v) refl) (by_nodes vs)

    one_sent : (j : ℕ) (t : SentPacket) → sent j ≡ Some t → received_of t ≡ slot_deliveries s rank f p (state_at s f) j
    unfolding received_of
    one_sent j t is =
        let at = sent_so s rank f p (state_at s f) j t is in
        ap received_of at.is
        ∙ ap (λ (o : Option Plan). option_map_or (λ q. slot_deliveries s rank f q (state_at s f) j) o []) planned

    by_slots : (js : List ℕ) → flat_map (slot_deliveries s rank f p (state_at s f)) js ≡ flat_map received_of (filter_map sent js)
    by_slots [] = refl
    by_slots (j ∷ js) = by_sent (sent j) refl (by_slots js)
      where
        by_sent : (o : Option SentPacket) → sent j ≡ o
            → flat_map (slot_deliveries s rank f p (state_at s f)) js ≡ flat_map received_of (filter_map sent js)
            → slot_deliveries s rank f p (state_at s f) j ++ flat_map (slot_deliveries s rank f p (state_at s f)) js
            ≡ flat_map received_of (cons_option o (filter_map sent js))
        by_sent None is rest = ap (λ (l : List Delivery). l ++ flat_map (slot_deliveries s rank f p (state_at s f)) js) (none_sent j is) ∙ rest
        by_sent (Some t) is rest =
            ap (λ (l : List Delivery). l ++ flat_map (slot_deliveries s rank f p (state_at s f)) js) (sym (one_sent j t is))
            ∙ ap (λ (l : List Delivery). received_of t ++ l) rest

    own_in_slot : (j : ℕ) (t : SentPacket) → sent j ≡ Some t → AllByRecursion (IsOf t) (received_of t)
    own_in_slot j t is =
        subst (AllByRecursion (IsOf t)) (sym (one_sent j t is)) (each_given (IsOf t) (delivery_in_slot s rank f p (state_at s f) j) own (ids s.nodes))
      where
        own : (v : ℕ) (a : Delivery) → delivery_in_slot s rank f p (state_at s f) j v ≡ Some a → IsOf t a
        own v a at =
            let same : sending_of a ≡ t = one (sym (delivered_was_sent s rank f p (state_at s f) j v a at) ∙ is) in
            subst (λ (u : SentPacket). is_packet u.packet (packet_delivered a) ≡ true) same (packet_itself (packet_delivered a))
          where
            one : {u : SentPacket} → Some u ≡ Some t → u ≡ t
            one is = cc

  in_round : (rank f : ℕ) → round_deliveries s rank f (state_at s f) ≡ flat_map received_of (round_sent s rank f (state_at s f))
  in_round rank f = by_plan (round_plan s rank f (state_at s f)) refl
    where
      by_plan : (o : Option Plan) → round_plan s rank f (state_at s f) ≡ o
          → option_map_or (λ p. flat_map (slot_deliveries s rank f p (state_at s f)) (slots_of p)) o []
          ≡ flat_map received_of (option_map_or (λ p. filter_map (sent_in_slot s rank f p (state_at s f)) (slots_of p)) o [])
      by_plan None is = refl
      by_plan (Some p) is = by_slots rank f p is (slots_of p)

  own_in_round : (rank f : ℕ) → AllByRecursion (λ t. AllByRecursion (IsOf t) (received_of t)) (round_sent s rank f (state_at s f))
  own_in_round rank f = by_plan (round_plan s rank f (state_at s f)) refl
    where
      by_plan : (o : Option Plan) → round_plan s rank f (state_at s f) ≡ o
          → AllByRecursion (λ t. AllByRecursion (IsOf t) (received_of t))
          (option_map_or (λ p. filter_map (sent_in_slot s rank f p (state_at s f)) (slots_of p)) o [])
      by_plan None is = tt
      by_plan (Some p) is =
          each_given (λ t. AllByRecursion (IsOf t) (received_of t)) (sent_in_slot s rank f p (state_at s f)) (own_in_slot rank f p is) (slots_of p)

  all_received : bus_deliveries s ≡ flat_map received_of (bus_sent s)
  all_received =
      same_pieces (λ f. flat_map (λ rank. round_deliveries s rank f (state_at s f)) (ranks_of s))
      (λ f. flat_map received_of (flat_map (λ rank. round_sent s rank f (state_at s f)) (ranks_of s))) in_frame (frames_of s)
      ∙ sym (joined_pieces received_of (λ f. flat_map (λ rank. round_sent s rank f (state_at s f)) (ranks_of s)) (frames_of s))
    where
      in_frame : (f : ℕ) → flat_map (λ rank. round_deliveries s rank f (state_at s f)) (ranks_of s)
          ≡ flat_map received_of (flat_map (λ rank. round_sent s rank f (state_at s f)) (ranks_of s))
      in_frame f =
          same_pieces (λ rank. round_deliveries s rank f (state_at s f)) (λ rank. flat_map received_of (round_sent s rank f (state_at s f)))
          (λ rank. in_round rank f) (ranks_of s)
          ∙ sym (joined_pieces received_of (λ rank. round_sent s rank f (state_at s f)) (ranks_of s))

  all_own : AllByRecursion (λ t. AllByRecursion (IsOf t) (received_of t)) (bus_sent s)
  all_own =
      each_of_pieces (λ t. AllByRecursion (IsOf t) (received_of t)) (λ f. flat_map (λ rank. round_sent s rank f (state_at s f)) (ranks_of s))
      (λ f. each_of_pieces (λ t. AllByRecursion (IsOf t) (received_of t)) (λ rank. round_sent s rank f (state_at s f)) (λ rank. own_in_round rank f)
      (ranks_of s)) (frames_of s)

  pub sent_are_delivered : flat_map (λ t. deliveries_of s t.packet) (bus_sent s) ≡ bus_deliveries s
  sent_are_delivered =
      ap (λ (ds : List Delivery). flat_map (λ t. filter (λ d. is_packet t.packet (packet_delivered d)) ds) (bus_sent s)) all_received
      ∙ found_by_test received_of (λ t d. is_packet t.packet (packet_delivered d)) (λ t u. is_packet t.packet u.packet) apart (bus_sent s)
      (different s) all_own
      ∙ sym all_received
    where
      apart : (t u : SentPacket) (d : Delivery) → is_packet t.packet u.packet ≡ false → is_packet t.packet (packet_delivered d) ≡ true
          → is_packet u.packet (packet_delivered d) ≡ true → ⊥
      apart t u d other one two =
          let both = same_packet u.packet (packet_delivered d) two ∙ sym (same_packet t.packet (packet_delivered d) one) in
          false≢true (sym other ∙ ap (is_packet t.packet) both ∙ packet_itself t.packet)
