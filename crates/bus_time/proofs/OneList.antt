-- Two valid logs with the same entries have one list of stamps.
use Rattle.std.proofs.Common.{◌≡◌, ℕ, List, [], ◌∷◌, Bool, true, false, filter, Contains, AllPairs, Some, Option}
use Rattle.std.proofs.Common.{refl, sym, ◌∙◌, ap, subst, true≢false}
use Rattle.std.specs.Prelude.{IsPermutation}
use Rattle.std.specs.List.{AllZip}
use Rattle.std.proofs.lemmas.List.Kept.{AllPairs-filter}
use Rattle.std.proofs.lemmas.List.Sorted.{Contains-permutation, IsPermutation-sym}
use Rattle.lwb_base.specs.Profile.{Numbers}
use Rattle.lwb_packets.specs.Requests.{is_request}
use Rattle.lwb_packets.specs.declared.kind.Kind.TheVariants as kinds
use Rattle.bus_rules.specs.Slots.{Data, Message, ScheduleOf, DataOf, RequestOf}
use Rattle.lwb_member.specs.Said.{message_of}
use Rattle.radio_model.specs.declared.sending.Sending.{Sending}
use Rattle.radio_model.specs.OnAir.{Hearing}
use Rattle.radio_model.specs.Hearing.{frame_of_sending, slot_of_sending}
use Rattle.radio_model.proofs.Members.{from_filter, in_filter}
use Rattle.scenario_text.specs.ScenarioParts.{ScenarioParts}
use Rattle.air_log.specs.declared.entry.Entry.{Entry}
use Rattle.air_log.specs.Entries.{hearing_in, sending_in, sendings_of}
use Rattle.air_log.specs.Safe.{Begins, SameSlot, sender_hosts}
use Rattle.lwb_base.proofs.Elements.{contains_head, contains_tail, filtered, in_filtered, weaker_pairs}
use Rattle.law_trails.specs.PacketKinds.{kind_of_message}
use Rattle.law_trails.proofs.SaidPackets.{kind_says}
use Rattle.law_safety.specs.Endings.{EndsInOrder}
use Rattle.law_safety.proofs.SafeRuns.{safe_at_the_end}
use Rattle.law_safety.proofs.InvariantHolds.{whole_run}
use Rattle.bus_time.specs.Stamps.{HasReference, IsStamp, IsTick, begins_data, stamped}
use Rattle.bus_time.specs.StampLaws.{BeginsData, OneListLaw}
use Rattle.bus_time.specs.declared.stamp.Stamp.{Stamp}
use Rattle.bus_time.proofs.DataHosts.{hosts_named}
use Rattle.bus_time.proofs.GivenWords.{begun_data}
use Rattle.bus_time.proofs.OneReference.{HeardToo, one_tick, reference_too}
use Rattle.bus_time.proofs.PlaceOrder.{Place, PlacesApart, same_list}
use Rattle.bus_time.proofs.StampedLists.{stamped_begins}

-- ---- the same entries

module _ (a b : List Entry) (moved : IsPermutation a b) where
  pub heard_too : HeardToo a b
  heard_too v h there =
      let g : Hearing = record { node = v; sending = h } in
      let e = from_filter hearing_in a g there in
      in_filter hearing_in b e.0 g (Contains-permutation a b e.0 moved e.1) e.2

  pub sent_too : (x : Sending) → Contains (sendings_of a) x → Contains (sendings_of b) x
  sent_too x there =
      let e = from_filter sending_in a x there in
      in_filter sending_in b e.0 x (Contains-permutation a b e.0 moved e.1) e.2

  begun_too : (x : Sending) → Contains (filter begins_data (sendings_of a)) x → Contains (filter begins_data (sendings_of b)) x
  begun_too x there =
      let both = filtered begins_data (sendings_of a) x there in
      in_filtered begins_data (sendings_of b) x (sent_too x both.0) both.1

-- ---- the transmissions that are stamped

abbrev place_of : Numbers → Sending → Place
place_of p x = (frame_of_sending p x, x.rank, slot_of_sending x)

-- data is no request
data_asks_not : (q : List ℕ) (d : Data) → message_of q ≡ Some (DataOf d) → is_request q ≡ false
data_asks_not q d says = by_test (is_request q) refl
  where
    other : (m : Message) → ◌≡◌ {A = Option Message} (Some (DataOf d)) (Some m) → kind_of_message m ≡ kinds.Request → ⊥
    other (ScheduleOf y) same kind = cc
    other (DataOf e) same kind = cc
    other (RequestOf a) same kind = cc

    by_test : (b : Bool) → is_request q ≡ b → is_request q ≡ false
    by_test false is = is
    by_test true is = let k = kind_says kinds.Request q is in absurd (other k.message (sym says ∙ k.says) k.of_kind)

-- one data packet begins in a slot
begun_apart : (s : ScenarioParts) (clocks : ℕ → ℕ → ℕ) (air : List Entry) → EndsInOrder s clocks air
    → AllPairs (PlacesApart (place_of s.profile)) (filter begins_data (sendings_of air))
begun_apart s clocks air whole =
    weaker_pairs OneBegins (PlacesApart (place_of s.profile)) (filter begins_data (sendings_of air))
    (AllPairs-filter OneBegins begins_data (sendings_of air) (safe_at_the_end s clocks air whole).one_initiator.one)
    (λ x y there also one same.
    one (record { channel = same.second; frame = same.first; slot = same.third }) (begins x there) (begins y also))
  where
    OneBegins : Sending → Sending → Type 0
    OneBegins x y = SameSlot s.profile x y → Begins x → Begins y → ⊥

    begins : (x : Sending) → Contains (filter begins_data (sendings_of air)) x → Begins x
    begins x there =
        let both = filtered begins_data (sendings_of air) x there in
        let data_ = begun_data air x both.0 both.1 in
        record { first = data_.first; no_request = data_asks_not x.packet data_.data_ data_.says }

pub one_stamped : (s : ScenarioParts) (clocks : ℕ → ℕ → ℕ) (a b : List Entry) → EndsInOrder s clocks a → EndsInOrder s clocks b → IsPermutation a b
    → stamped s.profile a ≡ stamped s.profile b
one_stamped s clocks a b of_a of_b moved =
    same_list (place_of s.profile) (filter begins_data (sendings_of a)) (filter begins_data (sendings_of b)) (begun_apart s clocks a of_a)
    (begun_apart s clocks b of_b) (begun_too a b moved) (begun_too b a (IsPermutation-sym a b moved))

-- ---- and their stamps

module _ (s : ScenarioParts) (clocks : ℕ → ℕ → ℕ) (a b : List Entry) (of_a : EndsInOrder s clocks a) (of_b : EndsInOrder s clocks b)
    (moved : IsPermutation a b) (x : Sending) (begun : BeginsData a x) (begun_b : BeginsData b x) where
  hosts_too : sender_hosts s clocks a x ≡ true → sender_hosts s clocks b x ≡ true
  hosts_too is = (hosts_named s clocks b of_b x begun_b).1 ((hosts_named s clocks a of_a x begun).0 is)

  hosts_back : sender_hosts s clocks b x ≡ true → sender_hosts s clocks a x ≡ true
  hosts_back is = (hosts_named s clocks a of_a x begun).1 ((hosts_named s clocks b of_b x begun_b).0 is)

  by_references : (t u : ℕ) → HasReference s a x clocks t → HasReference s b x clocks u → t ≡ u
  by_references t u is also =
      let back = heard_too b a (IsPermutation-sym a b moved) in
      let too = heard_too a b moved in
      is.is
      ∙ one_tick s clocks a of_a x begun is.ahead also.ahead is.heard also.heard is.reference
      (reference_too s x b a back too also.ahead also.heard also.reference)
      ∙ sym also.is

  same_tick : (t u : ℕ) → IsTick s a x clocks t → IsTick s b x clocks u → t ≡ u
  same_tick t u is also = by_tests (sender_hosts s clocks a x) (sender_hosts s clocks b x) refl refl
    where
      by_tests : (m n : Bool) → sender_hosts s clocks a x ≡ m → sender_hosts s clocks b x ≡ n → t ≡ u
      by_tests true true one two = is.host one ∙ sym (also.host two)
      by_tests true false one two = absurd (true≢false (sym (hosts_too one) ∙ two))
      by_tests false true one two = absurd (true≢false (sym (hosts_back two) ∙ one))
      by_tests false false one two = by_references t u (is.other one) (also.other two)

  same_stamp : (k l : Stamp) → IsStamp s clocks a x k → IsStamp s clocks b x l → k ≡ l
  same_stamp k l is also =
      fields k.frame l.frame k.rank l.rank k.slot l.slot k.node l.node k.stream l.stream k.seq l.seq k.tick l.tick
      (is.frame ∙ sym also.frame) (is.rank ∙ sym also.rank) (is.slot ∙ sym also.slot) (is.node ∙ sym also.node) (is.stream ∙ sym also.stream)
      (is.seq ∙ sym also.seq) (same_tick k.tick l.tick is.tick also.tick)
    where
      fields : (f g r q j i v u m n o p t w : ℕ) → f ≡ g → r ≡ q → j ≡ i → v ≡ u → m ≡ n → o ≡ p → t ≡ w
          → ◌≡◌ {A = Stamp}
          (record { frame = f; rank = r; slot = j; node = v; stream = m; seq = o; tick = t })
          (record { frame = g; rank = q; slot = i; node = u; stream = n; seq = p; tick = w })
      fields f g r q j i v u m n o p t w frame rank slot node stream seq tick = rw (frame, rank, slot, node, stream, seq, tick) refl

-- lists that go with one list, element by element
one_zip : {X Y : Type 0} (R Q : X → Y → Type 0) (xs : List X) (ks ls : List Y) → ((x : X) → Contains xs x → (k l : Y) → R x k → Q x l → k ≡ l)
    → AllZip R xs ks → AllZip Q xs ls → ks ≡ ls
one_zip R Q [] [] [] one all also = refl
one_zip R Q [] [] (l ∷ ls) one all also = absurd also
one_zip R Q [] (k ∷ ks) ls one all also = absurd all
one_zip R Q (x ∷ xs) [] ls one all also = absurd all
one_zip R Q (x ∷ xs) (k ∷ ks) [] one all also = absurd also
one_zip {Y} R Q (x ∷ xs) (k ∷ ks) (l ∷ ls) one all also =
    ap (λ (z : Y). z ∷ ks) (one x (contains_head x xs) k l all.0 also.0)
    ∙ ap (λ (zs : List Y). l ∷ zs) (one_zip R Q xs ks ls (λ z there. one z (contains_tail x xs z there)) all.1 also.1)

pub one_list : OneListLaw
one_list s clocks a b driven lawful_a lawful_b moved ks ls are also =
    let of_a = whole_run s clocks a driven lawful_a in
    let of_b = whole_run s clocks b driven lawful_b in
    one_zip (IsStamp s clocks a) (IsStamp s clocks b) (stamped s.profile a) ks ls
    (λ x there k l is too. (
    let begins = stamped_begins s.profile a x there in
    same_stamp s clocks a b of_a of_b moved x (begun_data a x begins.0 begins.1) (begun_data b x (sent_too a b moved x begins.0) begins.1) k l is too
    ))
    are
    (subst (λ (xs : List Sending). AllZip (IsStamp s clocks b) xs ls) (sym (one_stamped s clocks a b of_a of_b moved)) also)
