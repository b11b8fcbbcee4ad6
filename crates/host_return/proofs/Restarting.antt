-- The lines by which a node restarts.
use Rattle.std.proofs.Common.{◌≡◌, ℕ, zero, suc, ◌+◌, ◌<◌, ◌≤◌, List, [], ◌∷◌, ◌++◌, true, false, ◌==◌, All, AllPairs, Contains, refl, sym, arith}
use Rattle.std.proofs.lemmas.Bool.{cond_both}
use Rattle.std.proofs.lemmas.List.Elements.{All-append, All-cons, All-nil, All-contains}
use Rattle.scenario_text.specs.FloodParts.{knows}
use Rattle.scenario_text.specs.ScenarioFacts.{IsScriptLine, IsSoundScenario}
use Rattle.scenario_text.specs.ScenarioParts.{ScenarioParts}
use Rattle.bus_rules.specs.declared.act.Act.TheVariants.{On, Off, Declare}
use Rattle.scenario_text.specs.declared.script.ScriptLine.{ScriptLine}
use Rattle.scenario_clocks.specs.StatedClocks.{scenario_clock}
use Rattle.air_log.specs.declared.entry.Entry.{Entry}
use Rattle.air_log.specs.Lawful.{heard_by}
use Rattle.host_return.specs.Restarts.{wish_in, declared_again, restart, lines_of_going_back}
use Rattle.host_return.specs.Wishes.{told}
use Rattle.host_return.specs.declared.returned.Return.{Return}
use Rattle.host_return.proofs.WishesTold.{wish_told, few_wished}

-- by what the script tells, they are those by what the trail says
pub restart_told : (s : ScenarioParts) (air : List Entry) (r : Return) → IsSoundScenario s
    → restart (r.frame + 1) r.node (λ i. (told (r.frame + 1) r.node i s.script).1) ≡ lines_of_going_back s air r
restart_told s air r sound =
    let f = r.frame + 1 in
    let v = r.node in
    let is : (i : ℕ) → (told f v i s.script).1 ≡ wish_in s air f v i = λ i. sym (wish_told s sound v i (scenario_clock s v) (heard_by air v) f) in
    rw (is 0, is 1, is 2, is 3) refl

module _ (s : ScenarioParts) (f v : ℕ) (wish : ℕ → ℕ) (P : ScriptLine → Type 0) (off : P (record { frame = f; node = v; act = Off }))
    (on : P (record { frame = f; node = v; act = On }))
    (again : (i : ℕ) → i ≤ 3 → (wish i == 0) ≡ false → P (record { frame = f; node = v; act = Declare i (wish i) })) where
  one : (i : ℕ) → i ≤ 3 → All P (declared_again f v i (wish i))
  one i least =
      cond_both (wish i == 0) [] (record { frame = f; node = v; act = Declare i (wish i) } ∷ []) (All P)
      (λ none. All-nil P) (λ some. All-cons P (record { frame = f; node = v; act = Declare i (wish i) }) [] (again i least some) (All-nil P))

  all_restart : All P (restart f v wish)
  all_restart =
      let d : ℕ → List ScriptLine = λ i. declared_again f v i (wish i) in
      let first : ScriptLine = record { frame = f; node = v; act = Off } in
      let second : ScriptLine = record { frame = f; node = v; act = On } in
      let none : List ScriptLine = [] in
      All-cons P first (second ∷ (d 0 ++ (d 1 ++ (d 2 ++ (d 3 ++ none))))) off
      (All-cons P second (d 0 ++ (d 1 ++ (d 2 ++ (d 3 ++ none)))) on
      (All-append P (d 0) (d 1 ++ (d 2 ++ (d 3 ++ none))) (one 0 (omega arith))
      (All-append P (d 1) (d 2 ++ (d 3 ++ none)) (one 1 (omega arith))
      (All-append P (d 2) (d 3 ++ none) (one 2 (omega arith)) (All-append P (d 3) none (one 3 (omega arith)) (All-nil P))))))

above_none : (n : ℕ) → (n == 0) ≡ false → 1 ≤ n
above_none zero some = absurd (cc)
above_none (suc n) some = omega arith

-- they may be added to the script
pub restart_in_range : (s : ScenarioParts) (f v : ℕ) → IsSoundScenario s → f < s.frames → knows s.nodes v ≡ true
    → All (IsScriptLine s) (restart f v (λ i. (told f v i s.script).1))
restart_in_range s f v sound within known =
    let wish : ℕ → ℕ = λ i. (told f v i s.script).1 in
    all_restart s f v wish (IsScriptLine s)
    (record { in_run = within; known = known; act = tt }) (record { in_run = within; known = known; act = tt })
    (λ i least some.
    let few = few_wished s f v i sound in
    record { in_run = within; known = known; act = (least, above_none (wish i) some, few) })

-- and all are of one frame
pub restart_ascends : (f v : ℕ) (wish : ℕ → ℕ) (s : ScenarioParts) → AllPairs (λ a b. a.frame ≤ b.frame) (restart f v wish)
restart_ascends f v wish s i j d less below =
    let all = all_restart s f v wish (λ l. l.frame ≡ f) refl refl (λ i least some. refl) in
    omega (arith, all i d (omega (arith, less, below)), all j d below)

pub restart_of_frame : (s : ScenarioParts) (air : List Entry) (r : Return) (l : ScriptLine) → Contains (lines_of_going_back s air r) l → l.frame ≡ r.frame + 1
restart_of_frame s air r l there =
    All-contains (λ (m : ScriptLine). m.frame ≡ r.frame + 1) (lines_of_going_back s air r) l
    (all_restart s (r.frame + 1) r.node (wish_in s air (r.frame + 1) r.node) (λ m. m.frame ≡ r.frame + 1) refl refl (λ i least some. refl)) there
