-- Each put line has one fate.
use Rattle.std.proofs.Common.{◌≡◌, ℕ, List, [], ◌∷◌, Option, Some, None, filter_map, map, option_map, refl, ap}
use Rattle.std.specs.List.{cons_option, enumerate_from}
use Rattle.scenario_text.specs.ScenarioParts.{ScenarioParts}
use Rattle.scenario_text.specs.declared.script.ScriptLine.{ScriptLine}
use Rattle.bus_terms.specs.Fates.{bus_fates, fate_at, fate_of}
use Rattle.bus_terms.specs.Packets.{bus_puts, put_at}
use Rattle.bus_terms.specs.declared.packets.PutFate.{PutFate}
use Rattle.bus_terms.specs.declared.packets.PutLine.{PutLine}

module _ (s : ScenarioParts) where
  abbrev with_fate : ℕ → PutLine → PutFate
  with_fate i p = record { put = p; fate = fate_of s i p.packet }

  abbrev put_in : PutFate → PutLine
  put_in x = x.put

  by_lines : (ls : List (ℕ × ScriptLine)) → map put_in (filter_map (fate_at s) ls) ≡ filter_map (put_at s) ls
  by_lines [] = refl
  by_lines (l ∷ ls) = by_put (put_at s l) (by_lines ls)
    where
      by_put : (o : Option PutLine) → map put_in (filter_map (fate_at s) ls) ≡ filter_map (put_at s) ls
          → map put_in (cons_option (option_map (with_fate l.0) o) (filter_map (fate_at s) ls))
          ≡ cons_option o (filter_map (put_at s) ls)
      by_put None rest = rest
      by_put (Some p) rest = ap (λ (ps : List PutLine). p ∷ ps) rest

  pub one_fate_each : map put_in (bus_fates s) ≡ bus_puts s
  one_fate_each = by_lines (enumerate_from 0 s.script)
