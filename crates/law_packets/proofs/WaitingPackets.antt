-- A packet that is neither sent nor cleared is in the queue of its stream after the last frame, and no other is.
use Rattle.std.proofs.Common.{◌≡◌, ℕ, zero, suc, ◌+◌, ◌<◌, ◌≤◌, List, [], ◌∷◌, ◌++◌, Bool, true, false, cond, ◌==◌, ◌&&◌, Option, Some, None, AllPairs}
use Rattle.std.proofs.Common.{Contains, drop, filter, find, fold, if◌then◌else◌, inl, inr, length, option_map, take, refl, sym, ◌∙◌, ap, subst, arith}
use Rattle.std.specs.Prelude.{◌⊎◌, ◌↔◌, slice_set}
use Rattle.std.specs.List.{enumerate_from, list_any, slice_index_or}
use Rattle.std.proofs.lemmas.Bool.{and_from, and_parts, cases_lt, eq-eqb, eqb-true, false≢true}
use Rattle.std.proofs.lemmas.List.Elements.{All-contains, Contains-append_left, Contains-append_right, Contains-append_cases}
use Rattle.lwb_base.proofs.Elements.{contains_cases, contains_head, contains_tail, filter_from, not_in_none, pairs_head, pairs_tail}
use Rattle.scenario_text.specs.OverLines.{IsOverScenario}
use Rattle.scenario_text.specs.ScenarioFacts.{IsScriptLine, IsSoundScenario}
use Rattle.scenario_text.specs.ScenarioParts.{ScenarioParts}
use Rattle.scenario_text.specs.declared.script.ScriptLine.{ScriptLine}
use Rattle.scenario_text.proofs.SoundOver.{over_sound}
use Rattle.bus_rules.specs.declared.act.Act.{Act}
use Rattle.bus_rules.specs.declared.act.Act.TheVariants.{On, Off, Declare, Leave, Put}
use Rattle.bus_rules.specs.Cores.{Core}
use Rattle.bus_rules.specs.States.{State, StateOff, StateOn, state_after_act}
use Rattle.bus_rules.specs.Streams.{Stream, WaitingPacket, emptied, no_stream, put_to, queued, refuses, stream_at, wishes, with_stream}
use Rattle.bus_terms.specs.Bus.{before_frame, state_at}
use Rattle.bus_terms.specs.Fates.{cleared_below, clears, deliveries_of, empties, fate_at, fate_by, fate_of, is_at_host, is_packet}
use Rattle.bus_terms.specs.Packets.{bus_sent, put_at, put_by, queued_packet}
use Rattle.bus_terms.specs.ScriptedStates.{state_after_line}
use Rattle.bus_terms.specs.declared.packets.Fate.TheVariants.{Waiting}
use Rattle.bus_terms.specs.declared.packets.PacketId.{PacketId}
use Rattle.bus_terms.specs.declared.packets.PutFate.{PutFate}
use Rattle.bus_terms.specs.declared.packets.PutLine.{PutLine}
use Rattle.bus_terms.specs.declared.packets.SentPacket.{SentPacket}
use Rattle.bus_terms.proofs.KeptFields as fields
use Rattle.law_packets.specs.Waiting.{HasQueued, IsQueuedAtEnd, WaitInQueues}
use Rattle.law_packets.proofs.FewerWaiting.{set_related}
use Rattle.law_packets.proofs.KeptPackets.{frame_keeps, has, has_in, never_off}
use Rattle.law_packets.proofs.QueuedPackets.{never_cleared, never_sent}
use Rattle.law_packets.proofs.ToldLines.{IsPutBy, is_told, put_so, state_told, told_more}

-- ---- lists
none_found : {X : Type 0} (p : X → Bool) (xs : List X) → find p xs ≡ None → (x : X) → Contains xs x → p x ≡ false
none_found p [] is x there = absurd (not_in_none x there)
none_found {X} p (y ∷ ys) is x there = by_test (p y) refl is (none_found p ys)
  where
    by_test : (b : Bool) → p y ≡ b → cond b (Some y) (find p ys) ≡ None → (find p ys ≡ None → (x : X) → Contains ys x → p x ≡ false) → p x ≡ false
    by_test true at is rest = absurd (cc)
    by_test false at is rest = elim (contains_cases y ys x there) [
      | inl same ↦ ap p (sym same) ∙ at
      | inr later ↦ rest is x later
    ]

-- the element of a place stands between those before and those behind it
parted : {X : Type 0} (k : ℕ) (xs : List X) (i : ℕ) (x : X) → Contains (enumerate_from k xs) (i, x)
    → (n : ℕ) × (i ≡ k + n) × (xs ≡ take n xs ++ x ∷ drop (suc n) xs)
parted k [] i x there = absurd (not_in_none (i, x) there)
parted {X} k (y ∷ ys) i x there =
    elim (contains_cases (k, y) (enumerate_from (k + 1) ys) (i, x) there) [
      | inl same ↦
          (0, (let place = ap (λ (p : ℕ × X). p.0) same in omega (arith, place)), ap (λ (z : X). z ∷ ys) (ap (λ (p : ℕ × X). p.1) same))
      | inr later ↦
          (let rest = parted (k + 1) ys i x later in
          (suc rest.0, (let place = rest.1 in omega (arith, place)), ap (λ (zs : List X). y ∷ zs) rest.2))
    ]

the_next : (n : ℕ) → suc n ≡ n + 1
the_next n = omega arith

ahead_of : {X : Type 0} (R : X → X → Type 0) (above rest : List X) (x y : X) → AllPairs R (above ++ x ∷ rest) → Contains above y → R y x
ahead_of R [] rest x y pairs there = absurd (not_in_none y there)
ahead_of {X} R (z ∷ above) rest x y pairs there =
    elim (contains_cases z above y there) [
      | inl same ↦
          subst (λ (u : X). R u x) same (pairs_head R z (above ++ x ∷ rest) pairs x (Contains-append_right above (x ∷ rest) x (contains_head x rest)))
      | inr later ↦ ahead_of R above rest x y (pairs_tail R z (above ++ x ∷ rest) pairs) later
    ]

-- ---- one line
-- each packet that waits in x waits in z
abbrev IsMore : Stream → Stream → Type 0
IsMore x z = (w : WaitingPacket) → Contains x.queue w → Contains z.queue w

put_queues : (xs : List Stream) (i : ℕ) (payload : List ℕ) → refuses (slice_index_or xs i no_stream) ≡ false
    → Contains (slice_index_or (slice_set xs i (put_to payload (slice_index_or xs i no_stream))) i no_stream).queue
    (record { seq = (slice_index_or xs i no_stream).next; payload = payload })
put_queues [] i payload fits = absurd (false≢true (sym fits))
put_queues (x ∷ xs) zero payload fits =
    rw fits (Contains-append_right x.queue _ (record { seq = x.next; payload = payload }) (contains_head (record { seq = x.next; payload = payload }) []))
put_queues (x ∷ xs) (suc i) payload fits = put_queues xs i payload fits

module _ (y : PacketId) where
  -- the line that puts it
  put_has : (l : ScriptLine) (x : State) → IsPutBy l x y → HasQueued (state_after_line x l) y
  put_has l x is =
      subst (λ (z : State). HasQueued z y) (sym (ap (λ (a : Act). state_after_act a x) is.act ∙ ap (state_after_act (Put y.stream is.payload)) is.on))
      (has y _ (sym is.boot) (record { seq = (stream_at is.core.streams y.stream).next; payload = is.payload }) (sym is.seq)
      (put_queues is.core.streams.all y.stream is.payload is.fits))

  with_more : (c : Core) (k : ℕ) (z : Stream) → IsMore (stream_at c.streams k) z → HasQueued (StateOn c) y
      → HasQueued (StateOn (record c { streams = with_stream k z c.streams })) y
  with_more c k z more is =
      let h = has_in y c is in
      has y (record c { streams = with_stream k z c.streams }) h.boot h.waiting h.number
      (set_related IsMore (λ x w there. there) c.streams.all k y.stream z more h.waiting h.there)

  -- and one that does not empty its queue
  act_keeps : (a : Act) (x : State) → empties y.stream a ≡ false → HasQueued x y → HasQueued (state_after_act a x) y
  act_keeps a (StateOff boots) not is = never_off y boots is
  act_keeps On (StateOn c) not is = is
  act_keeps Off (StateOn c) not is = absurd (false≢true (sym not))
  act_keeps (Declare k interval) (StateOn c) not is = with_more c k (wishes interval (stream_at c.streams k)) (λ w there. there) is
  act_keeps (Leave k) (StateOn c) not is =
      let h = has_in y c is in
      has y (record c { streams = with_stream k (emptied (stream_at c.streams k)) c.streams }) h.boot h.waiting h.number
      (subst (λ (x : Stream). Contains x.queue h.waiting)
      (sym (fields.other_stays c.streams.all k y.stream (emptied (stream_at c.streams k)) (λ same. false≢true (sym not ∙ eq-eqb y.stream k (sym same)))))
      h.there)
  act_keeps (Put k payload) (StateOn c) not is = with_more c k (put_to payload (stream_at c.streams k)) (by_test (refuses (stream_at c.streams k))) is
    where
      by_test : (b : Bool) → IsMore (stream_at c.streams k) (if b then stream_at c.streams k else queued payload (stream_at c.streams k))
      by_test true w there = there
      by_test false w there =
          Contains-append_left (stream_at c.streams k).queue (record { seq = (stream_at c.streams k).next; payload = payload } ∷ []) w there

  line_keeps : (l : ScriptLine) (x : State) → l.node ≡ y.node → clears y l ≡ false → HasQueued x y → HasQueued (state_after_line x l) y
  line_keeps l x node not is = act_keeps l.act x (ap (λ (b : Bool). b && empties y.stream l.act) (sym (eq-eqb l.node y.node node)) ∙ not) is

  module _ (s : ScenarioParts) where
    -- the lines of frame g that its node is told
    lines_keep : (g : ℕ) (ls : List ScriptLine) → ((m : ScriptLine) → Contains ls m → is_told s y.node g m ≡ true → clears y m ≡ false)
        → (x : State) → HasQueued x y → HasQueued (fold state_after_line x (filter (is_told s y.node g) ls)) y
    lines_keep g [] keep x is = is
    lines_keep g (m ∷ ls) keep x is =
        by_test (is_told s y.node g m) refl (lines_keep g ls (λ n there. keep n (contains_tail m ls n there)))
      where
        by_test : (b : Bool) → is_told s y.node g m ≡ b
            → ((x : State) → HasQueued x y → HasQueued (fold state_after_line x (filter (is_told s y.node g) ls)) y)
            → HasQueued (fold state_after_line x (if b then m ∷ filter (is_told s y.node g) ls else filter (is_told s y.node g) ls)) y
        by_test true told rest =
            let both = and_parts (m.node == y.node) (m.frame == g) told in
            rest (state_after_line x m) (line_keeps m x (eqb-true m.node y.node both.0) (keep m (contains_head m ls) told) is)
        by_test false told rest = rest x is

    -- line l puts it, and no line below empties its queue
    module _ (sound : IsSoundScenario s) (unsent : (t : SentPacket) → Contains (bus_sent s) t → is_packet y t.packet ≡ false)
        (above rest : List ScriptLine) (l : ScriptLine) (whole : s.script ≡ above ++ l ∷ rest) (node : y.node ≡ l.node)
        (puts : IsPutBy l (state_told s y.node l.frame above) y) (stays : (m : ScriptLine) → Contains rest m → clears y m ≡ false) where
      put_then : HasQueued (state_at s l.frame y.node) y
      put_then =
          let before = state_told s y.node l.frame above in
          let told : is_told s y.node l.frame l ≡ true =
          and_from (l.node == y.node) (l.frame == l.frame) (eq-eqb l.node y.node (sym node)) (eq-eqb l.frame l.frame refl) in
          let all : state_at s l.frame y.node ≡ fold state_after_line before (filter (is_told s y.node l.frame) (l ∷ rest)) =
          ap (state_told s y.node l.frame) whole ∙ told_more s y.node l.frame above (l ∷ rest) in
          let one : fold state_after_line before (filter (is_told s y.node l.frame) (l ∷ rest))
          ≡ fold state_after_line (state_after_line before l) (filter (is_told s y.node l.frame) rest) =
          ap (λ (b : Bool). fold state_after_line before (if b then l ∷ filter (is_told s y.node l.frame) rest else filter (is_told s y.node l.frame) rest))
          told in
          subst (λ (x : State). HasQueued x y) (sym (all ∙ one))
          (lines_keep l.frame rest (λ m there told. stays m there) (state_after_line before l) (put_has l before puts))

      -- a line of a later frame is below
      later_stays : (g : ℕ) → l.frame < g → (m : ScriptLine) → Contains s.script m → is_told s y.node g m ≡ true → clears y m ≡ false
      later_stays g later m there told =
          let frame = eqb-true m.frame g (and_parts (m.node == y.node) (m.frame == g) told).1 in
          elim (Contains-append_cases above (l ∷ rest) m (subst (λ (ls : List ScriptLine). Contains ls m) whole there)) [
            | inl before ↦
                (let early = ahead_of (λ a b. a.frame ≤ b.frame) above rest l m
                (subst (λ (ls : List ScriptLine). AllPairs (λ a b. a.frame ≤ b.frame) ls) whole sound.script_ascends) before in
                absurd (omega (arith, early, frame, later)))
            | inr on ↦
                elim (contains_cases l rest m on) [
                  | inl same ↦ (let at = ap (λ (n : ScriptLine). n.frame) same in absurd (omega (arith, at, frame, later)))
                  | inr below ↦ stays m below
                ]
          ]

      later_queued : (g : ℕ) → l.frame < g → g ≤ s.frames → HasQueued (before_frame s g y.node) y
      later_queued zero later within = absurd (omega (arith, later))
      later_queued (suc g) later within = by_order (cases_lt l.frame g) (later_queued g)
        where
          step : HasQueued (state_at s g y.node) y → HasQueued (before_frame s (suc g) y.node) y
          step = frame_keeps y s sound.some_hosts unsent g (omega (arith, within))

          by_order : (l.frame < g) ⊎ (g ≤ l.frame) → (l.frame < g → g ≤ s.frames → HasQueued (before_frame s g y.node) y)
              → HasQueued (before_frame s (suc g) y.node) y
          by_order (inl before) rest =
              step (lines_keep g s.script (later_stays g before) (before_frame s g y.node) (rest before (omega (arith, within))))
          by_order (inr after) rest =
              let same : l.frame ≡ g = omega (arith, after, later) in
              step (subst (λ (h : ℕ). HasQueued (state_at s h y.node) y) same put_then)

      pub at_the_end : HasQueued (before_frame s s.frames y.node) y
      at_the_end =
          let there : Contains s.script l =
          subst (λ (ls : List ScriptLine). Contains ls l) (sym whole) (Contains-append_right above (l ∷ rest) l (contains_head l rest)) in
          let line : IsScriptLine s l = All-contains (IsScriptLine s) s.script l sound.script there in
          later_queued s.frames line.in_run (omega arith)

-- ---- the fates
module _ (s : ScenarioParts) (said : IsOverScenario s) where
  -- what waits is neither sent nor cleared
  waits_by : (o : Option SentPacket) (c : Option ℕ) (n : ℕ) (b : Bool) → fate_by o c n b ≡ Waiting → (o ≡ None) × (c ≡ None)
  waits_by None None n b is = (refl, refl)
  waits_by None (Some f) n b is = absurd (cc)
  waits_by (Some t) c n b is = absurd (cc)

  of_line : (l : ScriptLine) (a : Act) (x : State) (p : PutLine) → put_by l a x ≡ Some p → p.node ≡ l.node
  of_line l On x p is = absurd (cc)
  of_line l Off x p is = absurd (cc)
  of_line l (Declare i interval) x p is = absurd (cc)
  of_line l (Leave i) x p is = absurd (cc)
  of_line l (Put i payload) x p is =
      let same : record { frame = l.frame; node = l.node; stream = i; packet = queued_packet l.node i x } ≡ p = cc in
      ap (λ (q : PutLine). q.node) (sym same)

  nothing_clears : (o : Option ScriptLine) → option_map (λ l. l.frame) o ≡ None → o ≡ None
  nothing_clears None is = refl
  nothing_clears (Some l) is = absurd (cc)

  -- line l at place i puts y, by these lines above it and below
  module _ (i : ℕ) (l : ScriptLine) (p : PutLine) (y : PacketId) (there : Contains (enumerate_from 0 s.script) (i, l)) (put : put_at s (i, l) ≡ Some p)
      (packet : p.packet ≡ Some y) where
    whole : s.script ≡ take i s.script ++ l ∷ drop (i + 1) s.script
    whole =
        let parts = parted 0 s.script i l there in
        let place : i ≡ parts.0 = (let at = parts.1 in omega (arith, at)) in
        parts.2 ∙ ap (λ (n : ℕ). take n s.script ++ l ∷ drop (suc n) s.script) (sym place)
        ∙ ap (λ (n : ℕ). take i s.script ++ l ∷ drop n s.script) (the_next i)

    puts : IsPutBy l (state_told s l.node l.frame (take i s.script)) y
    puts = put_so l (state_told s l.node l.frame (take i s.script)) p y put packet

    own_node : y.node ≡ p.node
    own_node = puts.node ∙ sym (of_line l l.act (state_told s l.node l.frame (take i s.script)) p put)

    abbrev AtEnd : ℕ → Type 0
    AtEnd v = HasQueued (before_frame s s.frames v) y

    queued_then : fate_of s i (Some y) ≡ Waiting → IsQueuedAtEnd s p
    queued_then is =
        let neither = waits_by _ (cleared_below s i y) (length (deliveries_of s y)) _ is in
        record {
          packet = y;
          put = packet;
          queued = subst AtEnd own_node
              (at_the_end y s (over_sound s said) (λ t sent. none_found (λ t. is_packet y t.packet) (bus_sent s) neither.0 t sent)
              (take i s.script) (drop (i + 1) s.script) l whole puts.node
              (subst (λ (v : ℕ). IsPutBy l (state_told s v l.frame (take i s.script)) y) (sym puts.node) puts)
              (λ m below. none_found (clears y) (drop (i + 1) s.script) (nothing_clears _ neither.1) m below));
        }

    waits_then : AtEnd p.node → fate_of s i (Some y) ≡ Waiting
    waits_then queued =
        let own : AtEnd y.node = subst AtEnd (sym own_node) queued in
        let n = length (deliveries_of s y) in
        let b = list_any (is_at_host s.hosts) (deliveries_of s y) in
        ap (λ (o : Option SentPacket). fate_by o (cleared_below s i y) n b) (never_sent y s own)
        ∙ ap (λ (o : Option ScriptLine). fate_by None (option_map (λ (m : ScriptLine). m.frame) o) n b)
        (never_cleared y s own (over_sound s said) (take i s.script) (drop (i + 1) s.script) l whole puts)

  line_waits : (i : ℕ) (l : ScriptLine) (p : PutLine) → Contains (enumerate_from 0 s.script) (i, l) → put_at s (i, l) ≡ Some p
      → (fate_of s i p.packet ≡ Waiting) ↔ IsQueuedAtEnd s p
  line_waits i l p there put = (by_packet p.packet refl, of_queued)
    where
      by_packet : (o : Option PacketId) → p.packet ≡ o → fate_of s i o ≡ Waiting → IsQueuedAtEnd s p
      by_packet None packet is = absurd (cc)
      by_packet (Some y) packet is = queued_then i l p y there put packet is

      of_queued : IsQueuedAtEnd s p → fate_of s i p.packet ≡ Waiting
      of_queued is = ap (fate_of s i) is.put ∙ waits_then i l p is.packet there put is.put is.queued

  pub wait_in_queues : WaitInQueues s
  wait_in_queues x there =
      let line = filter_from (fate_at s) (enumerate_from 0 s.script) x there in
      by_put line.0.0 line.0.1 line.1 (put_at s line.0) refl line.2
    where
      by_put : (i : ℕ) (l : ScriptLine) → Contains (enumerate_from 0 s.script) (i, l) → (o : Option PutLine) → put_at s (i, l) ≡ o
          → option_map (λ p. record { put = p; fate = fate_of s i p.packet }) o ≡ Some x → (x.fate ≡ Waiting) ↔ IsQueuedAtEnd s x.put
      by_put i l among None put is = absurd (cc)
      by_put i l among (Some p) put is =
          let same : record { put = p; fate = fate_of s i p.packet } ≡ x = cc in
          subst (λ (z : PutFate). (z.fate ≡ Waiting) ↔ IsQueuedAtEnd s z.put) same (line_waits i l p among put)
