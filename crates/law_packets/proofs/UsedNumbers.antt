-- The numbers of a stream that were used are not used again: no two lines queue the same packet.
use Rattle.std.proofs.Common.{◌≡◌, ℕ, zero, suc, ◌+◌, ◌<◌, ◌≤◌, List, [], ◌∷◌, ◌++◌, Bool, true, false, ◌==◌, filter, fold}
use Rattle.std.proofs.Common.{if◌then◌else◌, inl, inr, refl, sym, ◌∙◌, ap, subst, arith}
use Rattle.std.specs.Prelude.{◌⊎◌}
use Rattle.std.proofs.lemmas.Bool.{and_from, cases_lt, cases_order, eq-eqb, false≢true}
use Rattle.std.proofs.lemmas.List.{append_assoc}
use Rattle.std.specs.List.{slice_index_or}
use Rattle.std.specs.Prelude.{slice_set}
use Rattle.scenario_text.specs.ScenarioParts.{ScenarioParts}
use Rattle.scenario_text.specs.declared.script.ScriptLine.{ScriptLine}
use Rattle.bus_rules.specs.declared.act.Act.{Act}
use Rattle.bus_rules.specs.declared.act.Act.TheVariants.{On, Off, Declare, Leave, Put}
use Rattle.bus_rules.specs.Cores.{Core}
use Rattle.bus_rules.specs.States.{State, StateOff, StateOn, state_after_act}
use Rattle.bus_rules.specs.Streams.{Stream, Streams, no_stream, put_to, queued, refuses, stream_at, streams_after_act, with_stream}
use Rattle.bus_rules.proofs.Switches.{acts_keep}
use Rattle.bus_terms.specs.Bus.{before_frame, state_at}
use Rattle.bus_terms.specs.ScriptedStates.{state_after_line}
use Rattle.bus_terms.specs.declared.packets.PacketId.{PacketId}
use Rattle.law_packets.proofs.FewerWaiting.{IsLess, set_related}
use Rattle.law_packets.proofs.KeptByRounds.{frame_keeps}
use Rattle.law_packets.proofs.ToldLines.{IsPutBy, is_told, state_told, told_more}

-- of boot b, the next number of stream i is from low on; a later boot has others
abbrev pub AreUsed : ℕ → ℕ → ℕ → State → Type 0
AreUsed b i low (StateOff boots) = b ≤ boots
AreUsed b i low (StateOn c) = (b ≤ c.boot) × (c.boot ≡ b → low ≤ (stream_at c.streams i).next)

module _ (b i low : ℕ) where
  less_used : (c d : Core) → IsLess c d → AreUsed b i low (StateOn c) → AreUsed b i low (StateOn d)
  less_used c d less is =
      let boot = less.boot in
      let next = (less.streams i).next in
      (omega (arith, boot, is.0), λ at. (let above = is.1 (sym boot ∙ at) in omega (arith, next, above)))

  -- an act lowers no next number
  abbrev IsUpFrom : Stream → Stream → Type 0
  IsUpFrom x y = x.next ≤ y.next

  with_up : (s : Streams) (k : ℕ) (x : Stream) → IsUpFrom (stream_at s k) x → IsUpFrom (stream_at s i) (stream_at (with_stream k x s) i)
  with_up s k x up = set_related IsUpFrom (λ y. omega arith) s.all k i x up

  told_up : (a : Act) (s : Streams) → IsUpFrom (stream_at s i) (stream_at (streams_after_act a s) i)
  told_up On s = omega arith
  told_up Off s = omega arith
  told_up (Declare k interval) s = with_up s k _ (omega arith)
  told_up (Leave k) s = with_up s k _ (omega arith)
  told_up (Put k payload) s = with_up s k (put_to payload (stream_at s k)) (by_test (refuses (stream_at s k)))
    where
      by_test : (t : Bool) → IsUpFrom (stream_at s k) (if t then stream_at s k else queued payload (stream_at s k))
      by_test true = omega arith
      by_test false = omega arith

  act_used : (a : Act) (x : State) → AreUsed b i low x → AreUsed b i low (state_after_act a x)
  act_used =
      acts_keep (AreUsed b i low) (λ boots is. (omega (arith, is), λ at. absurd (omega (arith, is, at)))) (λ c is. is.0)
      (λ a c is. (is.0, λ at. (let above = is.1 at in let up = told_up a c.streams in omega (arith, above, up))))

  lines_used : (ls : List ScriptLine) (x : State) → AreUsed b i low x → AreUsed b i low (fold state_after_line x ls)
  lines_used [] x is = is
  lines_used (l ∷ ls) x is = lines_used ls (state_after_line x l) (act_used l.act x is)

  module _ (s : ScenarioParts) (v : ℕ) where
    more_used : (f : ℕ) (above more : List ScriptLine) → AreUsed b i low (state_told s v f above) → AreUsed b i low (state_told s v f (above ++ more))
    more_used f above more is =
        subst (AreUsed b i low) (sym (told_more s v f above more)) (lines_used (filter (is_told s v f) more) (state_told s v f above) is)

    frames_used : (f g : ℕ) → f < g → AreUsed b i low (state_at s f v) → AreUsed b i low (before_frame s g v)
    frames_used f zero less is = absurd (omega arith)
    frames_used f (suc g) less is = by_order (cases_lt f g) (frames_used f g)
      where
        by_order : (f < g) ⊎ (g ≤ f) → (f < g → AreUsed b i low (state_at s f v) → AreUsed b i low (before_frame s g v))
            → AreUsed b i low (before_frame s (suc g) v)
        by_order (inl before) rest = frame_keeps s (AreUsed b i low) less_used g v (more_used g [] s.script (rest before is))
        by_order (inr after) rest =
            let same : f ≡ g = omega arith in
            frame_keeps s (AreUsed b i low) less_used g v (subst (λ (h : ℕ). AreUsed b i low (state_at s h v)) same is)

    -- after these lines of its frame, and others of a later frame
    later_used : (f g : ℕ) (above rest told : List ScriptLine) → s.script ≡ above ++ rest → f < g → AreUsed b i low (state_told s v f above)
        → AreUsed b i low (state_told s v g told)
    later_used f g above rest told whole less is =
        let all : AreUsed b i low (state_at s f v) =
        subst (λ (ls : List ScriptLine). AreUsed b i low (state_told s v f ls)) (sym whole) (more_used f above rest is) in
        more_used g [] told (frames_used f g less all)

-- what is put has used its number
next_put : (xs : List Stream) (i : ℕ) (payload : List ℕ) → refuses (slice_index_or xs i no_stream) ≡ false
    → (slice_index_or (slice_set xs i (put_to payload (slice_index_or xs i no_stream))) i no_stream).next ≡ (slice_index_or xs i no_stream).next + 1
next_put [] i payload fits = absurd (false≢true (sym fits))
next_put (x ∷ xs) zero payload fits = rw fits refl
next_put (x ∷ xs) (suc i) payload fits = next_put xs i payload fits

put_used : (l : ScriptLine) (x : State) (y : PacketId) → IsPutBy l x y → AreUsed y.boot y.stream (y.seq + 1) (state_after_line x l)
put_used l x y is =
    let boot = is.boot in
    let seq = is.seq in
    let next = next_put is.core.streams.all y.stream is.payload is.fits in
    subst (λ (z : State). AreUsed y.boot y.stream (y.seq + 1) z)
    (sym (ap (λ (a : Act). state_after_act a x) is.act ∙ ap (state_after_act (Put y.stream is.payload)) is.on))
    (omega (arith, boot), λ at. omega (arith, seq, next))

put_unused : (b i low : ℕ) (l : ScriptLine) (x : State) (y : PacketId) → AreUsed b i low x → IsPutBy l x y → y.boot ≡ b → y.stream ≡ i → low ≤ y.seq
put_unused b i low l x y used is boot stream =
    let there = subst (AreUsed b i low) is.on used in
    let above = there.1 (sym is.boot ∙ boot) in
    let seq = is.seq in
    let same = ap (λ (k : ℕ). (stream_at is.core.streams k).next) stream in
    omega (arith, above, seq, same)

module _ (s : ScenarioParts) where
  abbrev Puts : List ScriptLine → ScriptLine → PacketId → Type 0
  Puts above l x = IsPutBy l (state_told s l.node l.frame above) x

  -- after its line
  used_then : (above : List ScriptLine) (l : ScriptLine) (x : PacketId) → Puts above l x
      → AreUsed x.boot x.stream (x.seq + 1) (state_told s l.node l.frame (above ++ l ∷ []))
  used_then above l x is =
      subst (AreUsed x.boot x.stream (x.seq + 1)) (sym (told_more s l.node l.frame above (l ∷ []) ∙ one))
      (put_used l (state_told s l.node l.frame above) x is)
    where
      one : fold state_after_line (state_told s l.node l.frame above) (filter (is_told s l.node l.frame) (l ∷ []))
          ≡ state_after_line (state_told s l.node l.frame above) l
      one =
          ap (λ (t : Bool). fold state_after_line (state_told s l.node l.frame above) (if t then l ∷ [] else []))
          (and_from (l.node == l.node) (l.frame == l.frame) (eq-eqb l.node l.node refl) (eq-eqb l.frame l.frame refl))

  -- and before a line below, of its frame or a later one
  pub used_below : (above mid rest : List ScriptLine) (l m : ScriptLine) (x : PacketId) → s.script ≡ above ++ l ∷ (mid ++ m ∷ rest) → Puts above l x
      → l.node ≡ m.node → l.frame ≤ m.frame → AreUsed x.boot x.stream (x.seq + 1) (state_told s m.node m.frame (above ++ l ∷ mid))
  used_below above mid rest l m x whole puts node ascends = by_order (cases_lt l.frame m.frame)
    where
      Used : ℕ → ℕ → List ScriptLine → Type 0
      Used v g told = AreUsed x.boot x.stream (x.seq + 1) (state_told s v g told)

      behind : s.script ≡ (above ++ l ∷ []) ++ (mid ++ m ∷ rest)
      behind = whole ∙ sym (append_assoc above (l ∷ []) (mid ++ m ∷ rest))

      at_node : Used l.node m.frame (above ++ l ∷ mid) → Used m.node m.frame (above ++ l ∷ mid)
      at_node used = subst (λ (v : ℕ). Used v m.frame (above ++ l ∷ mid)) node used

      by_order : (l.frame < m.frame) ⊎ (m.frame ≤ l.frame) → Used m.node m.frame (above ++ l ∷ mid)
      by_order (inl less) =
          at_node (later_used x.boot x.stream (x.seq + 1) s l.node l.frame m.frame (above ++ l ∷ []) (mid ++ m ∷ rest) (above ++ l ∷ mid) behind less
          (used_then above l x puts))
      by_order (inr more) =
          let frame : l.frame ≡ m.frame = omega (arith, ascends, more) in
          let used : Used l.node l.frame ((above ++ l ∷ []) ++ mid) =
          more_used x.boot x.stream (x.seq + 1) s l.node l.frame (above ++ l ∷ []) mid (used_then above l x puts) in
          at_node (subst (λ (g : ℕ). Used l.node g (above ++ l ∷ mid)) frame
          (subst (λ (ls : List ScriptLine). Used l.node l.frame ls) (append_assoc above (l ∷ []) mid) used))

  -- two lines put different packets
  pub not_both : (above mid rest : List ScriptLine) (l m : ScriptLine) (x : PacketId) → s.script ≡ above ++ l ∷ (mid ++ m ∷ rest) → Puts above l x
      → Puts (above ++ l ∷ mid) m x → ⊥
  not_both above mid rest l m x whole first second = by_order (cases_order l.frame m.frame)
    where
      node : l.node ≡ m.node
      node = sym first.node ∙ second.node

      behind_l : s.script ≡ (above ++ l ∷ []) ++ (mid ++ m ∷ rest)
      behind_l = whole ∙ sym (append_assoc above (l ∷ []) (mid ++ m ∷ rest))

      behind_m : s.script ≡ ((above ++ l ∷ mid) ++ m ∷ []) ++ rest
      behind_m =
          whole ∙ sym (append_assoc above (l ∷ mid) (m ∷ rest)) ∙ sym (append_assoc (above ++ l ∷ mid) (m ∷ []) rest)

      used_l : AreUsed x.boot x.stream (x.seq + 1) (state_told s l.node l.frame (above ++ l ∷ []))
      used_l = used_then above l x first

      above_itself : (w : ScriptLine) (y : State) → AreUsed x.boot x.stream (x.seq + 1) y → IsPutBy w y x → ⊥
      above_itself w y used is = (let more = put_unused x.boot x.stream (x.seq + 1) w y x used is refl refl in omega (arith, more))

      same_frame : l.frame ≡ m.frame → ⊥
      same_frame frame =
          let used = more_used x.boot x.stream (x.seq + 1) s l.node l.frame (above ++ l ∷ []) mid used_l in
          let joined = subst (λ (ls : List ScriptLine). AreUsed x.boot x.stream (x.seq + 1) (state_told s l.node l.frame ls))
          (append_assoc above (l ∷ []) mid) used in
          let there = subst (λ (g : ℕ). AreUsed x.boot x.stream (x.seq + 1) (state_told s l.node g (above ++ l ∷ mid))) frame joined in
          above_itself m (state_told s m.node m.frame (above ++ l ∷ mid))
          (subst (λ (u : ℕ). AreUsed x.boot x.stream (x.seq + 1) (state_told s u m.frame (above ++ l ∷ mid))) node there) second

      earlier : l.frame < m.frame → ⊥
      earlier less =
          let used = later_used x.boot x.stream (x.seq + 1) s l.node l.frame m.frame (above ++ l ∷ []) (mid ++ m ∷ rest) (above ++ l ∷ mid) behind_l less
          used_l in
          above_itself m (state_told s m.node m.frame (above ++ l ∷ mid))
          (subst (λ (u : ℕ). AreUsed x.boot x.stream (x.seq + 1) (state_told s u m.frame (above ++ l ∷ mid))) node used) second

      later : m.frame < l.frame → ⊥
      later less =
          let used = later_used x.boot x.stream (x.seq + 1) s m.node m.frame l.frame ((above ++ l ∷ mid) ++ m ∷ []) rest above behind_m less
          (used_then (above ++ l ∷ mid) m x second) in
          above_itself l (state_told s l.node l.frame above)
          (subst (λ (u : ℕ). AreUsed x.boot x.stream (x.seq + 1) (state_told s u l.frame above)) (sym node) used) first

      by_order : (l.frame ≡ m.frame) ⊎ ((l.frame < m.frame) ⊎ (m.frame < l.frame)) → ⊥
      by_order (inl same) = same_frame same
      by_order (inr (inl less)) = earlier less
      by_order (inr (inr more)) = later more
