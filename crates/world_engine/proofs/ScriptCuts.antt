-- How far the script has been given at the beginning of a frame.
use Rattle.std.proofs.Common.{◌≡◌, ℕ, zero, suc, ◌<◌, List, [], ◌∷◌, ◌++◌, take, drop, filter, Bool, nat_lt, Some, sym, refl, ap, ◌∙◌, arith, ltb-true, lt-ltb}
use Rattle.std.specs.Prelude.{slice_get, Contains}
use Rattle.std.proofs.lemmas.Bool.{cond-true}
use Rattle.std.proofs.lemmas.List.{take-append-drop, append-nil}
use Rattle.std.proofs.lemmas.List.Elements.{filter-append}
use Rattle.std.proofs.lemmas.Option.{same_Some, none-some}
use Rattle.lwb_base.proofs.Elements.{contains_head, contains_tail}
use Rattle.scenario_text.specs.AddedLines.{frame_of_line}
use Rattle.scenario_text.specs.ScenarioParts.{ScenarioParts}
use Rattle.scenario_text.specs.declared.script.ScriptLine.{ScriptLine}
use Rattle.air_log.proofs.ListCuts as cuts
use Rattle.air_log.proofs.ListCuts.{behind_first, among_first}
use Rattle.air_log.proofs.NextDue.{none_passes}
use Rattle.world_engine.specs.Frames.{told_before, CountsScriptLinesBefore}

-- where all lines are of earlier frames
pub told_all : (f : ℕ) (ls : List ScriptLine) → ((l : ScriptLine) → Contains ls l → l.frame < f) → filter (λ l. nat_lt l.frame f) ls ≡ ls
told_all f [] early = refl
told_all f (l ∷ ls) early =
    cond-true (nat_lt l.frame f) (l ∷ filter (λ k. nat_lt k.frame f) ls) (filter (λ k. nat_lt k.frame f) ls) (lt-ltb l.frame f (early l (contains_head l ls)))
    ∙ ap (λ (rest : List ScriptLine). l ∷ rest) (told_all f ls (λ k there. early k (contains_tail l ls k there)))

-- the early lines are the first k
pub told_at_cut : (s : ScenarioParts) (k f : ℕ) → CountsScriptLinesBefore s k f → told_before s f ≡ take k s.script
told_at_cut s k f counts =
    let early : ScriptLine → Bool = λ l. nat_lt l.frame f in
    ap (filter early) (sym (take-append-drop k s.script)) ∙ filter-append early (take k s.script) (drop k s.script)
    ∙ ap (λ (ls : List ScriptLine). filter early (take k s.script) ++ ls)
    (none_passes early (drop k s.script) (λ l there is.
    let at = behind_first s.script k l there in
    let late = counts.cut.behind at.0 l at.2 at.1 in
    let less = ltb-true l.frame f is in
    omega (arith, late, less)))
    ∙ append-nil (filter early (take k s.script))
    ∙ told_all f (take k s.script) (λ l there. let at = among_first s.script k l there in counts.cut.before at.0 l at.2 at.1)

-- at first
pub first_cut : (s : ScenarioParts) → CountsScriptLinesBefore s 0 0
first_cut s = record { within = omega arith; cut = cuts.first_cut frame_of_line s.script }

-- the next line of a list
pub next_splits : (xs : List ScriptLine) (k : ℕ) (l : ScriptLine) → slice_get xs k ≡ Some l → xs ≡ take k xs ++ l ∷ drop (suc k) xs
next_splits [] k l at = absurd (none-some _ at)
next_splits (x ∷ xs) zero l at = ap (λ (y : ScriptLine). y ∷ xs) (same_Some _ _ at)
next_splits (x ∷ xs) (suc k) l at = ap (λ (ys : List ScriptLine). x ∷ ys) (next_splits xs k l at)
