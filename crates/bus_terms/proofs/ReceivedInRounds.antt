-- The data slots of rounds: members deliver what relay paths bring to them, and nobody else delivers.
use Rattle.std.proofs.Common.{◌≡◌, ◌≢◌, ℕ, ◌<◌, ◌↔◌, List, [], ◌∷◌, Bool, true, false, if◌then◌else◌, ◌==◌, inl, inr, Option, Some, None, is_some}
use Rattle.std.proofs.Common.{filter, option_map, option_and_then, refl, sym, ◌∙◌, ap, subst, AllPairs, eq-eqb, get_or, length, arith}
use Rattle.std.specs.Prelude.{◌⊎◌}
use Rattle.std.proofs.lemmas.Bool.{eqb-true, false≢true, or_left, cond-false}
use Rattle.lwb_base.specs.Messages.{Plan, node_of, stream_of}
use Rattle.scenario_text.specs.ScenarioParts.{ScenarioParts}
use Rattle.scenario_text.specs.ScenarioFacts.{IsSoundScenario}
use Rattle.scenario_text.specs.declared.lines.NodeLine.{NodeLine}
use Rattle.bus_rules.specs.declared.delivery.Delivery.{Delivery}
use Rattle.std.proofs.lemmas.List.{get_or-map, length-map}
use Rattle.bus_rules.specs.declared.part.Part.{Part}
use Rattle.bus_rules.specs.declared.part.Part.TheVariants.{Data as DataSlot}
use Rattle.bus_rules.specs.Cores.{Core, is_member}
use Rattle.bus_rules.specs.Slots.{Message, DataOf, Data, Opened, part_of, data_of, opened_slot, delivery_of}
use Rattle.bus_rules.specs.States.{State, StateOff, StateOn}
use Rattle.bus_rules.specs.Streams.{WaitingPacket, first_waiting}
use Rattle.bus_terms.specs.FloodOfText.{ids}
use Rattle.bus_terms.specs.Flooding.{Setting, moment, has, accepted, Accepts, STEPS}
use Rattle.bus_terms.specs.RelayPaths.{HasPath}
use Rattle.scenario_text.specs.Setups.{setup_of}
use Rattle.bus_terms.specs.Rounds.{Slot, slot_of_round, opened_at, message_said, takes_part, accepted_at, closed_slot_of, before_slot, delivery_in_slot}
use Rattle.bus_terms.specs.Received.{IsReceived}
use Rattle.bus_terms.proofs.FirstHearings.{accepted_first}
use Rattle.bus_terms.proofs.LeastPaths.{accepts_some}
use Rattle.bus_terms.proofs.OneInitiator.{has_one, IsFirst}
use Rattle.bus_terms.proofs.ReceivedByPaths.{one_at_most, in_filtered, of_filtered, in_whole, nobody_hears, no_path}

pub accepted_none : (x : Setting) (v : ℕ) → ((o k : ℕ) → Accepts x v o k → ⊥) → accepted x v ≡ None
accepted_none x v nowhere = by_answer (accepted x v) refl
  where
    by_answer : (a : Option (ℕ × ℕ)) → accepted x v ≡ a → accepted x v ≡ None
    by_answer None is = is
    by_answer (Some a) is = absurd (nowhere a.0 a.1 ((accepted_first x v a.0 a.1).0 is))

-- what is said in a data slot is data of its owner
said_from : (owner v : ℕ) (c : Core) (w : Option WaitingPacket) (m : Message)
    → (if node_of owner == v then option_map (data_of v c (stream_of owner)) w else None) ≡ Some m → (v ≡ node_of owner) × ((d : Data) × (m ≡ DataOf d))
said_from owner v c w m is = by_test (node_of owner == v) refl w is
  where
    by_test : (b : Bool) → (node_of owner == v) ≡ b → (w : Option WaitingPacket) → (if b then option_map (data_of v c (stream_of owner)) w else None) ≡ Some m
        → (v ≡ node_of owner) × ((d : Data) × (m ≡ DataOf d))
    by_test false at w is = absurd (cc)
    by_test true at None is = absurd (cc)
    by_test true at (Some x) is =
        (sym (eqb-true _ v at), (record { node = v; boot = c.boot; stream = stream_of owner; seq = x.seq; payload = x.payload }, cc))

module _ (s : ScenarioParts) (rank f owner : ℕ) where
  said_in_data : (v : ℕ) (x : State) (m : Message) → message_said (opened_at s rank f (DataSlot owner) v x) ≡ Some m
      → (v ≡ node_of owner) × ((d : Data) × (m ≡ DataOf d))
  said_in_data v (StateOff boots) m is = absurd (cc)
  said_in_data v (StateOn c) m is = by_test (is_member rank f c) is
    where
      by_test : (b : Bool) → message_said (if b then Some (opened_slot (setup_of s v) f (DataSlot owner) c) else None) ≡ Some m
          → (v ≡ node_of owner) × ((d : Data) × (m ≡ DataOf d))
      by_test false is = absurd (cc)
      by_test true is = said_from owner v c (first_waiting c.streams (stream_of owner)) m is

  -- a window in which something is said is one
  has_window : (part : Part) (w : Option Opened) (x : State) → is_some (message_said w) ≡ true → takes_part rank part x w ≡ true
  has_window part None x is = absurd (false≢true is)
  has_window part (Some o) x is = refl

  -- nobody takes part in a data slot without a window
  no_scanner : (x : State) → takes_part rank (DataSlot owner) x None ≡ true → ⊥
  no_scanner x is = false≢true is

  -- what is delivered where a window closes: what was accepted, if it is data
  delivers : (v : ℕ) (o : Opened) (x : State) (heard : Option Message) → ((m : Message) → heard ≡ Some m → (d : Data) × (m ≡ DataOf d))
      → is_some (option_and_then (λ c. c.delivered) (closed_slot_of s f (DataSlot owner) v (Some o) heard x)) ≡ is_some heard
  delivers v o x None data_only = refl
  delivers v o x (Some m) data_only = (let d = data_only m refl in rw d.1 refl)

  module _ (x : Slot) (states : ℕ → State)
      (window_is : (v : ℕ) → x.window v ≡ opened_at s rank f (DataSlot owner) v (states v))
      (initiators_are : x.flood.initiators ≡ filter (λ v. is_some (message_said (x.window v))) (ids s.nodes))
      (everyone_is : x.flood.everyone ≡ filter (λ v. takes_part rank (DataSlot owner) (states v) (x.window v)) (ids s.nodes))
      (rise : AllPairs (λ a b. a < b) (ids s.nodes)) where
    pub says_data : (v : ℕ) (m : Message) → message_said (x.window v) ≡ Some m → (v ≡ node_of owner) × ((d : Data) × (m ≡ DataOf d))
    says_data v m is = said_in_data v (states v) m (ap message_said (sym (window_is v)) ∙ is)

    pub some_said : (w : Option Message) → is_some w ≡ true → (m : Message) × (w ≡ Some m)
    some_said None is = absurd (false≢true is)
    some_said (Some m) is = (m, refl)

    owner_alone : (v : ℕ) → is_some (message_said (x.window v)) ≡ true → v ≡ node_of owner
    owner_alone v is = (let m = some_said (message_said (x.window v)) is in (says_data v m.0 m.1).0)

    -- nobody initiates, or the owner's node alone
    pub initiators : (x.flood.initiators ≡ []) ⊎ ((x.flood.initiators ≡ node_of owner ∷ []) × (is_some (message_said (x.window (node_of owner))) ≡ true))
    initiators =
        elim (one_at_most (λ v. is_some (message_said (x.window v))) (node_of owner) (ids s.nodes) rise owner_alone) [
          | inl none ↦ inl (initiators_are ∙ none)
          | inr one ↦ inr (initiators_are ∙ one.0, one.1)
        ]

    pub takes : (v : ℕ) → has (ids s.nodes) v ≡ true → is_some (x.window v) ≡ true → has x.flood.everyone v ≡ true
    takes v there opens =
        subst (λ (l : List ℕ). has l v ≡ true) (sym everyone_is) (in_filtered _ (ids s.nodes) v there (by_window (x.window v) opens))
      where
        by_window : (w : Option Opened) → is_some w ≡ true → takes_part rank (DataSlot owner) (states v) w ≡ true
        by_window None is = absurd (false≢true is)
        by_window (Some o) is = refl

    heard_data : (v : ℕ) (m : Message) → accepted_at x v ≡ Some m → (d : Data) × (m ≡ DataOf d)
    heard_data v m is = by_answer (accepted x.flood v) is
      where
        by_answer : (a : Option (ℕ × ℕ)) → option_and_then (λ a. message_said (x.window a.0)) a ≡ Some m → (d : Data) × (m ≡ DataOf d)
        by_answer None is = absurd (cc)
        by_answer (Some a) is = (says_data a.0 m is).1

    -- who has no window takes no part
    nothing_outside : (v : ℕ) → x.window v ≡ None → accepted_at x v ≡ None
    nothing_outside v none =
        ap (λ (a : Option (ℕ × ℕ)). option_and_then (λ a. message_said (x.window a.0)) a) (accepted_none x.flood v (λ o k a. outside a.here))
      where
        outside : has x.flood.everyone v ≡ true → ⊥
        outside there =
            let passes = of_filtered (λ v. takes_part rank (DataSlot owner) (states v) (x.window v)) (ids s.nodes) v
            (subst (λ (l : List ℕ). has l v ≡ true) everyone_is there) in
            no_scanner (states v) (ap (λ (w : Option Opened). takes_part rank (DataSlot owner) (states v) w) (sym none) ∙ passes)

    -- the owner's node accepts nothing: either it initiates or nobody does
    nothing_at_owner : accepted_at x (node_of owner) ≡ None
    nothing_at_owner =
        ap (λ (a : Option (ℕ × ℕ)). option_and_then (λ a. message_said (x.window a.0)) a)
        (accepted_none x.flood (node_of owner) (λ o k a. refused o k a initiators))
      where
        refused : (o k : ℕ) → Accepts x.flood (node_of owner) o k
            → (x.flood.initiators ≡ []) ⊎ ((x.flood.initiators ≡ node_of owner ∷ []) × (is_some (message_said (x.window (node_of owner))) ≡ true)) → ⊥
        refused o k a (inl none) = nobody_hears x.flood none (node_of owner) o k a.hears
        refused o k a (inr one) =
            let listens = ap (λ (l : List ℕ). has l (node_of owner)) (sym one.0) ∙ a.listens in
            false≢true (sym listens ∙ or_left (node_of owner == node_of owner) _ (eq-eqb (node_of owner) (node_of owner) refl))

    module _ (one : x.flood.initiators ≡ node_of owner ∷ []) (says : is_some (message_said (x.window (node_of owner))) ≡ true) where
      pub owner_there : has x.flood.everyone (node_of owner) ≡ true
      owner_there =
          let kept = ap (λ (l : List ℕ). has l (node_of owner)) (sym initiators_are ∙ one) ∙ or_left (node_of owner == node_of owner) _
          (eq-eqb (node_of owner) (node_of owner) refl) in
          takes (node_of owner) (in_whole (λ v. is_some (message_said (x.window v))) (ids s.nodes) (node_of owner) kept) (opens (x.window (node_of owner)) says)
        where
          opens : (w : Option Opened) → is_some (message_said w) ≡ true → is_some w ≡ true
          opens None is = absurd (false≢true is)
          opens (Some o) is = refl

      -- what is accepted comes from the owner's node
      pub from_owner : (v : ℕ) (a : ℕ × ℕ) → accepted x.flood v ≡ Some a → Accepts x.flood v (node_of owner) a.1
      from_owner v a is =
          let accepts = (accepted_first x.flood v a.0 a.1).0 is in
          let same : a.0 ≡ node_of owner = first ((moment x.flood STEPS).heard v) ((has_one x.flood (node_of owner) STEPS one).heard v)
          (heard accepts.listens) in
          subst (λ (o : ℕ). Accepts x.flood v o a.1) same accepts
        where
          heard : has x.flood.initiators v ≡ false → (moment x.flood STEPS).heard v ≡ Some a
          heard listens = sym (cond-false (has x.flood.initiators v) None ((moment x.flood STEPS).heard v) listens) ∙ is

          first : (h : Option (ℕ × ℕ)) → IsFirst (node_of owner) h → h ≡ Some a → a.0 ≡ node_of owner
          first None is there = absurd (cc)
          first (Some b) is there = (let same : b ≡ a = cc in ap (λ (c : ℕ × ℕ). c.0) (sym same) ∙ is)

      accepts_paths : (v : ℕ) → has x.flood.everyone v ≡ true → v ≢ node_of owner
          → (is_some (accepted_at x v) ≡ true ↔ ((m : ℕ) × HasPath x.flood (node_of owner) m v))
      accepts_paths v there other = (λ some. (paths.0 (by_answer (accepted x.flood v) refl some)), λ path. back (paths.1 path))
        where
          paths : ((k : ℕ) × Accepts x.flood v (node_of owner) k) ↔ ((m : ℕ) × HasPath x.flood (node_of owner) m v)
          paths = accepts_some x.flood (node_of owner) one owner_there v there other

          by_answer : (a : Option (ℕ × ℕ)) → accepted x.flood v ≡ a → is_some (option_and_then (λ a. message_said (x.window a.0)) a) ≡ true
              → ((k : ℕ) × Accepts x.flood v (node_of owner) k)
          by_answer None is some = absurd (false≢true some)
          by_answer (Some a) is some = (a.1, from_owner v a is)

          back : ((k : ℕ) × Accepts x.flood v (node_of owner) k) → is_some (accepted_at x v) ≡ true
          back k =
              let is = (accepted_first x.flood v (node_of owner) k.0).1 k.1 in
              ap (λ (a : Option (ℕ × ℕ)). is_some (option_and_then (λ a. message_said (x.window a.0)) a)) is ∙ says

    accepts_by_paths : (v : ℕ) → has x.flood.everyone v ≡ true → v ≢ node_of owner
        → (is_some (accepted_at x v) ≡ true ↔ ((m : ℕ) × HasPath x.flood (node_of owner) m v))
    accepts_by_paths v there other =
        elim initiators [
          | inl none ↦ (
            (λ some. absurd (false≢true (sym (ap (λ (a : Option (ℕ × ℕ)). is_some (option_and_then (λ a. message_said (x.window a.0)) a))
                (accepted_none x.flood v (λ o k a. nobody_hears x.flood none v o k a.hears))) ∙ some))),
            λ path. absurd (no_path x.flood none (node_of owner) v path.0 other path.1),
          )
          | inr one ↦ accepts_paths one.0 one.1 v there other
        ]

-- the ids of nodes rise as the nodes do
pub ids_rise : (ns : List NodeLine) → AllPairs (λ a b. a.node < b.node) ns → AllPairs (λ a b. a < b) (ids ns)
ids_rise [] pairs i j d before within = absurd (omega arith)
ids_rise (n ∷ ns) pairs i j d before within =
    let long : length (ids (n ∷ ns)) ≡ length (n ∷ ns) = length-map (n ∷ ns) (λ m. m.node) in
    let first : get_or (ids (n ∷ ns)) i d ≡ (get_or (n ∷ ns) i n).node = get_or-map (λ m. m.node) (n ∷ ns) i n d (omega arith) in
    let second : get_or (ids (n ∷ ns)) j d ≡ (get_or (n ∷ ns) j n).node = get_or-map (λ m. m.node) (n ∷ ns) j n d (omega arith) in
    let below = pairs i j n before (omega arith) in
    omega (arith, first, second, below)

pub received : (s : ScenarioParts) → IsSoundScenario s → (rank f : ℕ) (p : Plan) (states : ℕ → State) (j owner : ℕ) → part_of p j ≡ DataSlot owner
    → IsReceived s rank f p states j owner
received s sound rank f p states j owner is = record {
  by_paths = λ v there opens other. by_paths v there opens other (x.window v) refl;
  outside = λ v none. (
      ap (λ (h : Option Message). delivery_with v (x.window v) h) (nothing_outside s rank f owner x before window_is refl everyone_is rise v none)
      ∙ ap (λ (w : Option Opened). delivery_with v w None) none);
  itself = ap (λ (h : Option Message). delivery_with (node_of owner) (x.window (node_of owner)) h)
      (nothing_at_owner s rank f owner x before window_is refl everyone_is rise)
      ∙ nothing_by (node_of owner) (x.window (node_of owner));
}
  where
    before : ℕ → State
    before = before_slot s rank f p states j

    x : Slot
    x = slot_of_round s rank f p j before

    rise : AllPairs (λ a b. a < b) (ids s.nodes)
    rise = ids_rise s.nodes sound.ascending

    window_is : (v : ℕ) → x.window v ≡ opened_at s rank f (DataSlot owner) v (before v)
    window_is v = ap (λ (part : Part). opened_at s rank f part v (before v)) is

    everyone_is : x.flood.everyone ≡ filter (λ v. takes_part rank (DataSlot owner) (before v) (x.window v)) (ids s.nodes)
    everyone_is = ap (λ (part : Part). filter (λ v. takes_part rank part (before v) (x.window v)) (ids s.nodes)) is

    delivery_with : ℕ → Option Opened → Option Message → Option Delivery
    delivery_with v w heard = option_map (delivery_of v f rank j) (option_and_then (λ c. c.delivered) (closed_slot_of s f x.part v w heard (before v)))

    nothing_by : (v : ℕ) (w : Option Opened) → delivery_with v w None ≡ None
    nothing_by v None = refl
    nothing_by v (Some o) = refl

    by_paths : (v : ℕ) → has (ids s.nodes) v ≡ true → is_some (x.window v) ≡ true → v ≢ node_of owner → (w : Option Opened) → x.window v ≡ w
        → (is_some (delivery_in_slot s rank f p states j v) ≡ true ↔ ((m : ℕ) × HasPath x.flood (node_of owner) m v))
    by_paths v there opens other None at = absurd (false≢true (ap (λ (w : Option Opened). is_some w) (sym at) ∙ opens))
    by_paths v there opens other (Some o) at =
        let paths = accepts_by_paths s rank f owner x before window_is refl everyone_is rise v
        (takes s rank f owner x before window_is refl everyone_is rise v there opens) other in
        let same : is_some (delivery_in_slot s rank f p states j v) ≡ is_some (accepted_at x v) =
        ap (λ (w : Option Opened). is_some (delivery_with v w (accepted_at x v))) at
        ∙ ap (λ (part : Part). is_some (option_map (delivery_of v f rank j)
        (option_and_then (λ c. c.delivered) (closed_slot_of s f part v (Some o) (accepted_at x v) (before v))))) is
        ∙ some_mapped (option_and_then (λ c. c.delivered) (closed_slot_of s f (DataSlot owner) v (Some o) (accepted_at x v) (before v)))
        ∙ delivers s rank f owner v o (before v) (accepted_at x v) (heard_data s rank f owner x before window_is refl everyone_is rise v) in
        (λ some. paths.0 (sym same ∙ some), λ path. same ∙ paths.1 path)
      where
        some_mapped : (d : Option Data) → is_some (option_map (delivery_of v f rank j) d) ≡ is_some d
        some_mapped None = refl
        some_mapped (Some d) = refl
