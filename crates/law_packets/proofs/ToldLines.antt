-- A node of the bus as the lines of a frame are told to it one after another, and what each of them puts.
use Rattle.std.proofs.Common.{◌≡◌, ℕ, List, [], ◌∷◌, ◌++◌, Bool, true, false, ◌==◌, ◌&&◌, Option, Some, None, Contains, filter, fold, option_to_list}
use Rattle.std.proofs.Common.{if◌then◌else◌, refl, sym, ◌∙◌, ap, subst}
use Rattle.std.proofs.lemmas.List.{append-nil, append_assoc}
use Rattle.std.proofs.lemmas.List.Elements.{Contains-append_left, Contains-append_right, filter-append}
use Rattle.std.proofs.lemmas.List.Sums.{fold-append}
use Rattle.lwb_base.proofs.Elements.{of_option}
use Rattle.lwb_base.proofs.LinesAbove.{by_place, given_below}
use Rattle.scenario_text.specs.ScenarioParts.{ScenarioParts}
use Rattle.scenario_text.specs.declared.script.ScriptLine.{ScriptLine}
use Rattle.bus_rules.specs.declared.act.Act.{Act}
use Rattle.bus_rules.specs.declared.act.Act.TheVariants.{On, Off, Declare, Leave, Put}
use Rattle.bus_rules.specs.Cores.{Core}
use Rattle.bus_rules.specs.States.{State, StateOff, StateOn}
use Rattle.bus_rules.specs.Streams.{drops, stream_at}
use Rattle.bus_terms.specs.Bus.{before_frame, state_before_line}
use Rattle.bus_terms.specs.Packets.{bus_puts, put_by, queued_packet}
use Rattle.bus_terms.specs.ScriptedStates.{state_after_line}
use Rattle.bus_terms.specs.declared.packets.PacketId.{PacketId}
use Rattle.bus_terms.specs.declared.packets.PutLine.{PutLine}

-- what a line puts where these are above it
abbrev pub put_below : ScenarioParts → List ScriptLine → ScriptLine → Option PutLine
put_below s above l = put_by l l.act (state_before_line s above l)

pub puts_by_place : (s : ScenarioParts) → bus_puts s ≡ given_below (put_below s) [] s.script
puts_by_place s = by_place (put_below s) s.script

given_among : {X Y : Type 0} (gives : List X → X → Option Y) (above xs ys : List X) (x : X) (y : Y) → gives (above ++ xs) x ≡ Some y
    → Contains (given_below gives above (xs ++ x ∷ ys)) y
given_among gives above [] ys x y is =
    Contains-append_left (option_to_list (gives above x)) (given_below gives (above ++ x ∷ []) ys) y
    (of_option (gives above x) y (ap (λ (l : List _). gives l x) (sym (append-nil above)) ∙ is))
given_among gives above (z ∷ xs) ys x y is =
    Contains-append_right (option_to_list (gives above z)) (given_below gives (above ++ z ∷ []) (xs ++ x ∷ ys)) y
    (given_among gives (above ++ z ∷ []) xs ys x y (ap (λ (l : List _). gives l x) (append_assoc above (z ∷ []) xs) ∙ is))

pub put_among : (s : ScenarioParts) (above rest : List ScriptLine) (l : ScriptLine) (p : PutLine) → s.script ≡ above ++ l ∷ rest
    → put_below s above l ≡ Some p → Contains (bus_puts s) p
put_among s above rest l p whole is =
    subst (λ (ps : List PutLine). Contains ps p)
    (ap (given_below (put_below s) []) (sym whole) ∙ sym (puts_by_place s)) (given_among (put_below s) [] above rest l p is)

-- line l puts packet y at a node in this state
pub record IsPutBy (l : ScriptLine) (x : State) (y : PacketId) : Type 0 where
  pub core : Core
  pub on : x ≡ StateOn core
  pub payload : List ℕ
  pub act : l.act ≡ Put y.stream payload
  pub fits : drops core.streams y.stream ≡ false
  pub node : y.node ≡ l.node
  pub boot : y.boot ≡ core.boot
  pub seq : y.seq ≡ (stream_at core.streams y.stream).next

pub put_so : (l : ScriptLine) (x : State) (p : PutLine) (y : PacketId) → put_by l l.act x ≡ Some p → p.packet ≡ Some y → IsPutBy l x y
put_so l x p y is packet = by_act l.act refl is
  where
    by_state : (i : ℕ) (payload : List ℕ) → l.act ≡ Put i payload → (x : State) → queued_packet l.node i x ≡ Some y → IsPutBy l x y
    by_state i payload act (StateOff boots) is = absurd (cc)
    by_state i payload act (StateOn c) is = by_test (drops c.streams i) refl is
      where
        by_test : (b : Bool) → drops c.streams i ≡ b
            → (if b then None else Some (record { node = l.node; boot = c.boot; stream = i; seq = (stream_at c.streams i).next })) ≡ Some y
            → IsPutBy l (StateOn c) y
        by_test true fits is = absurd (cc)
        by_test false fits is =
            let same : record { node = l.node; boot = c.boot; stream = i; seq = (stream_at c.streams i).next } ≡ y = one is in
            subst (λ (z : PacketId). IsPutBy l (StateOn c) z) same
            (record { core = c; on = refl; payload = payload; act = act; fits = fits; node = refl; boot = refl; seq = refl })
          where
            one : {z : PacketId} → Some z ≡ Some y → z ≡ y
            one is = cc

    packet_same : {q : PutLine} → Some q ≡ Some p → q.packet ≡ Some y
    packet_same {q} is = (let same : q ≡ p = cc in ap (λ (r : PutLine). r.packet) same ∙ packet)

    by_act : (a : Act) → l.act ≡ a → put_by l a x ≡ Some p → IsPutBy l x y
    by_act On act is = absurd (cc)
    by_act Off act is = absurd (cc)
    by_act (Declare i interval) act is = absurd (cc)
    by_act (Leave i) act is = absurd (cc)
    by_act (Put i payload) act is = by_state i payload act x (packet_same is)

-- node v in frame f once it was told those of these lines that are for it then
module _ (s : ScenarioParts) (v f : ℕ) where
  abbrev pub is_told : ScriptLine → Bool
  is_told l = (l.node == v) && (l.frame == f)

  abbrev pub state_told : List ScriptLine → State
  state_told above = fold state_after_line (before_frame s f v) (filter is_told above)

  pub told_more : (above more : List ScriptLine) → state_told (above ++ more) ≡ fold state_after_line (state_told above) (filter is_told more)
  told_more above more =
      ap (fold state_after_line (before_frame s f v)) (filter-append is_told above more)
      ∙ fold-append state_after_line (before_frame s f v) (filter is_told above) (filter is_told more)
