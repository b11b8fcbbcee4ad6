-- Whatever waits at a node was put by a line of the script, in this frame or before: so was all that is sent.
use Rattle.std.proofs.Common.{◌≡◌, ℕ, zero, suc, ◌≤◌, List, [], ◌∷◌, ◌++◌, Bool, true, false, ◌==◌, Some, None, Contains, fold}
use Rattle.std.proofs.Common.{if◌then◌else◌, inl, inr, refl, sym, ◌∙◌, ap, subst, arith}
use Rattle.std.proofs.lemmas.Bool.{and_parts, cases_eq, eqb-true}
use Rattle.std.proofs.lemmas.List.{append-nil, append_assoc}
use Rattle.std.proofs.lemmas.List.Elements.{Contains-push_cases}
use Rattle.std.specs.List.{slice_index_or}
use Rattle.std.specs.Prelude.{slice_set}
use Rattle.lwb_base.proofs.Elements.{not_in_none}
use Rattle.scenario_text.specs.ScenarioParts.{ScenarioParts}
use Rattle.scenario_text.specs.declared.script.ScriptLine.{ScriptLine}
use Rattle.bus_rules.specs.declared.act.Act.{Act}
use Rattle.bus_rules.specs.declared.act.Act.TheVariants.{On, Off, Declare, Leave, Put}
use Rattle.bus_rules.specs.Cores.{Core}
use Rattle.bus_rules.specs.States.{State, StateOff, StateOn, state_after_act}
use Rattle.bus_rules.specs.Streams.{Stream, WaitingPacket, cleared, drops, emptied, no_stream, queued, refuses, stream_at, wishes, with_stream}
use Rattle.bus_terms.specs.Bus.{before_frame, state_at}
use Rattle.bus_terms.specs.Packets.{bus_puts, put_by}
use Rattle.bus_terms.specs.ScriptedStates.{state_after_line}
use Rattle.bus_terms.specs.declared.packets.PacketId.{PacketId}
use Rattle.bus_terms.specs.declared.packets.PutLine.{PutLine}
use Rattle.bus_terms.proofs.KeptFields as fields
use Rattle.law_packets.proofs.FewerWaiting.{IsFewer, IsLess, same_stream, with_fewer}
use Rattle.law_packets.proofs.KeptByRounds.{frame_keeps}
use Rattle.law_packets.proofs.ToldLines.{is_told, put_among, put_below, state_told, told_more}

-- of each packet that waits, by boot, stream and number
module _ (Known : ℕ → ℕ → ℕ → Type 0) where
  abbrev pub AreKnown : State → Type 0
  AreKnown (StateOff boots) = Unit {0}
  AreKnown (StateOn c) = (i : ℕ) (w : WaitingPacket) → Contains (stream_at c.streams i).queue w → Known c.boot i w.seq

  pub less_known : (c d : Core) → IsLess c d → AreKnown (StateOn c) → AreKnown (StateOn d)
  less_known c d less known i w there = subst (λ (b : ℕ). Known b i w.seq) (sym less.boot) (known i w ((less.streams i).waits w there))

  exchanged : (c : Core) (k : ℕ) (x : Stream) → IsFewer (stream_at c.streams k) x → AreKnown (StateOn c)
      → AreKnown (StateOn (record c { streams = with_stream k x c.streams }))
  exchanged c k x fewer known =
      less_known c (record c { streams = with_stream k x c.streams }) (record { boot = refl; streams = with_fewer c.streams k x fewer }) known

  -- one packet more
  added : (c : Core) (k : ℕ) (payload : List ℕ) → Known c.boot k (stream_at c.streams k).next → AreKnown (StateOn c)
      → AreKnown (StateOn (record c { streams = with_stream k (queued payload (stream_at c.streams k)) c.streams }))
  added c k payload new known i w =
      elim (cases_eq k i) [
        | inl same ↦
            subst (λ (j : ℕ). Contains (stream_at (with_stream k x c.streams) j).queue w → Known c.boot j w.seq) same
            (at_own c.streams.all k (known k w) own)
        | inr other ↦ (λ there. known i w (subst (λ (y : Stream). Contains y.queue w) (fields.other_stays c.streams.all k i x other) there))
      ]
    where
      x : Stream
      x = queued payload (stream_at c.streams k)

      own : Contains x.queue w → Known c.boot k w.seq
      own there =
          elim (Contains-push_cases (stream_at c.streams k).queue (record { seq = (stream_at c.streams k).next; payload = payload }) w there) [
            | inl before ↦ known k w before
            | inr is ↦ subst (λ (y : WaitingPacket). Known c.boot k y.seq) is new
          ]

      at_own : (xs : List Stream) (j : ℕ) → (Contains (slice_index_or xs j no_stream).queue w → Known c.boot k w.seq)
          → (Contains x.queue w → Known c.boot k w.seq) → Contains (slice_index_or (slice_set xs j x) j no_stream).queue w → Known c.boot k w.seq
      at_own [] j old new = old
      at_own (y ∷ ys) zero old new = new
      at_own (y ∷ ys) (suc j) old new = at_own ys j old new

  nothing_waits : (i : ℕ) → (stream_at cleared i).queue ≡ []
  nothing_waits zero = refl
  nothing_waits (suc zero) = refl
  nothing_waits (suc (suc zero)) = refl
  nothing_waits (suc (suc (suc zero))) = refl
  nothing_waits (suc (suc (suc (suc i)))) = refl

  -- an act that queues a packet which is known
  pub act_known : (a : Act) (x : State)
      → ((i : ℕ) (payload : List ℕ) (c : Core) → a ≡ Put i payload → x ≡ StateOn c → drops c.streams i ≡ false → Known c.boot i (stream_at c.streams i).next)
      → AreKnown x → AreKnown (state_after_act a x)
  act_known On (StateOff boots) puts known =
      λ i w there. absurd (not_in_none w (subst (λ (l : List WaitingPacket). Contains l w) (nothing_waits i) there))
  act_known On (StateOn c) puts known = known
  act_known Off (StateOff boots) puts known = tt
  act_known Off (StateOn c) puts known = tt
  act_known (Declare i interval) (StateOff boots) puts known = tt
  act_known (Declare i interval) (StateOn c) puts known =
      exchanged c i (wishes interval (stream_at c.streams i)) (record { next = refl; waits = λ w there. there }) known
  act_known (Leave i) (StateOff boots) puts known = tt
  act_known (Leave i) (StateOn c) puts known =
      exchanged c i (emptied (stream_at c.streams i)) (record { next = refl; waits = λ w there. absurd (not_in_none w there) }) known
  act_known (Put i payload) (StateOff boots) puts known = tt
  act_known (Put i payload) (StateOn c) puts known = by_test (refuses x) refl
    where
      x : Stream
      x = stream_at c.streams i

      by_test : (b : Bool) → refuses x ≡ b → AreKnown (StateOn (record c { streams = with_stream i (if b then x else queued payload x) c.streams }))
      by_test true is = exchanged c i x (same_stream x) known
      by_test false is = added c i payload (puts i payload c refl refl is) known

module _ (s : ScenarioParts) where
  -- it was put in this frame or before
  pub record IsPutUpTo (v f boot i seq : ℕ) : Type 0 where
    pub line : PutLine
    pub among : Contains (bus_puts s) line
    pub queued : line.packet ≡ Some (record { node = v; boot = boot; stream = i; seq = seq })
    pub early : line.frame ≤ f

  abbrev AreAllPut : ℕ → ℕ → State → Type 0
  AreAllPut v f x = AreKnown (IsPutUpTo v f) x

  -- a line for the node in the frame
  line_puts : (above rest : List ScriptLine) (l : ScriptLine) → s.script ≡ above ++ l ∷ rest → AreAllPut l.node l.frame (state_told s l.node l.frame above)
      → AreAllPut l.node l.frame (state_after_line (state_told s l.node l.frame above) l)
  line_puts above rest l whole known = act_known (IsPutUpTo l.node l.frame) l.act (state_told s l.node l.frame above) puts known
    where
      puts : (i : ℕ) (payload : List ℕ) (c : Core) → l.act ≡ Put i payload → state_told s l.node l.frame above ≡ StateOn c → drops c.streams i ≡ false
          → IsPutUpTo l.node l.frame c.boot i (stream_at c.streams i).next
      puts i payload c act on fits =
          let packet : PacketId = record { node = l.node; boot = c.boot; stream = i; seq = (stream_at c.streams i).next } in
          let line : PutLine = record { frame = l.frame; node = l.node; stream = i; packet = Some packet } in
          let is : put_below s above l ≡ Some line =
          ap (λ (a : Act). put_by l a (state_told s l.node l.frame above)) act ∙ ap (λ (x : State). put_by l (Put i payload) x) on
          ∙ ap (λ (b : Bool). Some (record { frame = l.frame; node = l.node; stream = i; packet = if b then None else Some packet })) fits in
          record { line = line; among = put_among s above rest l line whole is; queued = refl; early = omega arith }

  module _ (v f : ℕ) where
    line_told : (above rest : List ScriptLine) (l : ScriptLine) → s.script ≡ above ++ l ∷ rest → AreAllPut v f (state_told s v f above)
        → AreAllPut v f (state_told s v f (above ++ l ∷ []))
    line_told above rest l whole known = subst (AreAllPut v f) (sym (told_more s v f above (l ∷ []))) (by_test (is_told s v f l) refl)
      where
        by_test : (b : Bool) → is_told s v f l ≡ b → AreAllPut v f (fold state_after_line (state_told s v f above) (if b then l ∷ [] else []))
        by_test false is = known
        by_test true is =
            let both = and_parts (l.node == v) (l.frame == f) is in
            subst (λ (u : ℕ). AreAllPut u f (state_told s u f above) → AreAllPut u f (state_after_line (state_told s u f above) l)) (eqb-true l.node v both.0)
            (subst (λ (g : ℕ). AreAllPut l.node g (state_told s l.node g above) → AreAllPut l.node g (state_after_line (state_told s l.node g above) l))
            (eqb-true l.frame f both.1) (line_puts above rest l whole)) known

    lines_told : (above rest : List ScriptLine) → s.script ≡ above ++ rest → AreAllPut v f (state_told s v f above)
        → AreAllPut v f (state_told s v f s.script)
    lines_told above [] whole known = subst (λ (ls : List ScriptLine). AreAllPut v f (state_told s v f ls)) (sym (whole ∙ append-nil above)) known
    lines_told above (l ∷ rest) whole known =
        lines_told (above ++ l ∷ []) rest (whole ∙ sym (append_assoc above (l ∷ []) rest)) (line_told above rest l whole known)

  later : (v f : ℕ) (x : State) → AreAllPut v f x → AreAllPut v (suc f) x
  later v f (StateOff boots) known = tt
  later v f (StateOn c) known = λ i w there.
      (let put = known i w there in
      let early = put.early in
      record { line = put.line; among = put.among; queued = put.queued; early = omega (arith, early) })

  pub all_put : (v f : ℕ) → AreAllPut v f (state_at s f v)
  unfolding before_frame
  all_put v zero = lines_told v zero [] s.script refl tt
  all_put v (suc f) =
      lines_told v (suc f) [] s.script refl
      (later v f (before_frame s (suc f) v) (frame_keeps s (AreAllPut v f) (less_known (IsPutUpTo v f)) f v (all_put v f)))
