-- The lines of an account, one for each node.
use Rattle.std.proofs.Common.{◌≡◌, ℕ, List, [], ◌∷◌, Bool, true, false, ◌||◌, ◌==◌, cond, if◌then◌else◌, find, map, Some, None, option_map, refl, ap, eqb-true}
use Rattle.scenario_text.specs.FloodParts.{knows}
use Rattle.scenario_text.specs.ScenarioParts.{ScenarioParts}
use Rattle.scenario_text.specs.declared.lines.NodeLine.{NodeLine}
use Rattle.air_log.specs.declared.entry.Entry.{Entry}
use Rattle.energy_account.specs.declared.account.AccountLine.{AccountLine}
use Rattle.energy_account.specs.Accounts.{IsAccount, energy_in, line_for, line_of}
use Rattle.air_log.specs.Energies.{energy_of}

module _ (s : ScenarioParts) (clocks : ℕ → ℕ → ℕ) (air : List Entry) where
  among : (ns : List NodeLine) (v : ℕ) → line_of (map (line_for s clocks air) ns) v ≡ (if knows ns v then Some (energy_of s clocks air v) else None)
  among [] v = refl
  among (n ∷ ns) v = by_test (n.node == v) refl (among ns v)
    where
      by_test : (b : Bool) → (n.node == v) ≡ b → line_of (map (line_for s clocks air) ns) v ≡ (if knows ns v then Some (energy_of s clocks air v) else None)
          → option_map energy_in (cond b (Some (line_for s clocks air n)) (find (λ (l : AccountLine). l.node == v) (map (line_for s clocks air) ns)))
          ≡ (if b || knows ns v then Some (energy_of s clocks air v) else None)
      by_test true is others = ap (λ (u : ℕ). Some (energy_of s clocks air u)) (eqb-true n.node v is)
      by_test false is others = others

  pub account_of_lines : IsAccount s clocks air (map (line_for s clocks air) s.nodes)
  account_of_lines v = among s.nodes v
