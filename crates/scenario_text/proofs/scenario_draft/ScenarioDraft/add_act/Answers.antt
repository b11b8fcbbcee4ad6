use Rattle.std.proofs.Common.{◌≡◌, Bool, true, false, ◌&&◌, if◌then◌else◌, Option, Some, None, sym, ◌∙◌, ap}
use Rattle.std.proofs.lemmas.Bool.{false≢true}
use Rattle.std.proofs.lemmas.Result.{err_from_is_err_and}
use Rattle.text_readers.specs.declared.fault.FaultKind.{FaultKind}
use Rattle.text_readers.specs.declared.fault.FaultKind.TheVariants.{Range, UnknownNode, Order}
use Rattle.scenario_text.specs.ScenarioGrammar.{Scenario}
use Rattle.scenario_text.specs.ScriptGrammar.{act_in_range}
use Rattle.scenario_text.proofs.scenario_draft.ScenarioDraft.add_act.Goals as goal

-- a first test that has one more part, which holds
same_fault : (first part second third : Bool) (k : FaultKind) (more : Option FaultKind) → part ≡ true
    → (if first then if second then if third then None else Some Order else Some UnknownNode else Some Range) ≡ Some k
    → (if first && part then if second then if third then more else Some Order else Some UnknownNode else Some Range) ≡ Some k
same_fault first false second third k more holds is = absurd (false≢true holds)
same_fault true true true true k more holds is = cc
same_fault true true true false k more holds is = is
same_fault true true false third k more holds is = is
same_fault false true second third k more holds is = is

pub returns-in_err-frame-clause-fault : goal.returns-in_err-frame-clause-fault
returns-in_err-frame-clause-fault c =
    let e = err_from_is_err_and c.from_residual-in_err-frame.result c.from_residual-in_err-frame.ensures.1 in
    let range = sym (ap (λ (d : Scenario). act_in_range d.profile c.args.act) c.self.view_is) ∙ c.in_ok-act.ensures.range in
    rw (e.1, e.2) (same_fault _ _ _ _ _ _ range c.in_err-frame.ensures.fault)
