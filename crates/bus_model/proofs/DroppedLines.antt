-- The dropped puts are the lines that lose a packet.
use Rattle.std.proofs.Common.{◌≡◌, ℕ, List, [], ◌∷◌, Bool, true, false, Option, None, Some, filter_map, option_and_then, take, refl, ◌∙◌, ap, if◌then◌else◌}
use Rattle.std.specs.List.{cons_option}
use Rattle.scenario_text.specs.ScenarioParts.{ScenarioParts}
use Rattle.scenario_text.specs.declared.script.ScriptLine.{ScriptLine}
use Rattle.bus_rules.specs.declared.act.Act.{Act}
use Rattle.bus_rules.specs.declared.act.Act.TheVariants.{On, Off, Declare, Leave, Put}
use Rattle.bus_rules.specs.declared.delivery.DropLine.{DropLine}
use Rattle.bus_rules.specs.States.{State, StateOff, StateOn}
use Rattle.bus_rules.specs.Streams.{drops, stream_at}
use Rattle.bus_terms.specs.Bus.{drop_at, state_before_line}
use Rattle.bus_terms.specs.Packets.{put_at, put_by}
use Rattle.bus_terms.specs.ScriptedStates.{lost_by}
use Rattle.bus_terms.specs.declared.packets.PutLine.{PutLine}
use Rattle.bus_model.specs.DroppedPuts.{drop_of}

-- of one line
dropped : (l : ScriptLine) (a : Act) (x : State) → option_and_then drop_of (put_by l a x) ≡ lost_by l a x
dropped l On x = refl
dropped l Off x = refl
dropped l (Declare i interval) x = refl
dropped l (Leave i) x = refl
dropped l (Put i payload) (StateOff boots) = refl
dropped l (Put i payload) (StateOn c) = by_test (drops c.streams i)
  where
    by_test : (b : Bool) → drop_of (record {
      frame = l.frame;
      node = l.node;
      stream = i;
      packet = if b then None else Some (record { node = l.node; boot = c.boot; stream = i; seq = (stream_at c.streams i).next });
    })
        ≡ (if b then Some (record { frame = l.frame; node = l.node; stream = i }) else None)
    by_test true = refl
    by_test false = refl

kept : (o : Option PutLine) (ps : List PutLine) → filter_map drop_of (cons_option o ps) ≡ cons_option (option_and_then drop_of o) (filter_map drop_of ps)
kept None ps = refl
kept (Some p) ps = refl

-- of all lines
pub dropped_all : (s : ScenarioParts) (ls : List (ℕ × ScriptLine)) → filter_map drop_of (filter_map (put_at s) ls) ≡ filter_map (drop_at s) ls
dropped_all s [] = refl
dropped_all s (l ∷ ls) =
    kept (put_at s l) (filter_map (put_at s) ls)
    ∙ ap (λ (o : Option DropLine). cons_option o (filter_map drop_of (filter_map (put_at s) ls))) (dropped_at l)
    ∙ ap (cons_option (drop_at s l)) (dropped_all s ls)
  where
    dropped_at : (x : ℕ × ScriptLine) → option_and_then drop_of (put_at s x) ≡ drop_at s x
    dropped_at (i, l) = dropped l l.act (state_before_line s (take i s.script) l)
