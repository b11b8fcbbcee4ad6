-- The verdict is that a log is valid where it is.
use Rattle.std.proofs.Common.{◌≡◌, ℕ, List, ◌↔◌, Result, Ok, Err, IfOk, subst}
use Rattle.lwb_base.specs.declared.outside.Memory.{Memory}
use Rattle.radio_model.specs.declared.sending.Sending.{Sending}
use Rattle.scenario_text.specs.ScenarioParts.{ScenarioParts}
use Rattle.air_log.specs.declared.entry.Entry.{Entry}
use Rattle.air_log.specs.Entries.{HasHeardEntry}
use Rattle.air_log.specs.Lawful.{Lawful as LawfulLog, FollowsTrails}
use Rattle.air_check.specs.declared.verdict.Verdict.{Verdict}
use Rattle.air_check.specs.declared.verdict.Verdict.TheVariants.{Lawful}
use Rattle.air_check.specs.Verdicts.{IsGiven, AreGiven, IsVerdict}
use Rattle.air_check.proofs.OneVerdict.{one_verdict}

module _ (s : ScenarioParts) (clocks : ℕ → ℕ → ℕ) (air : List Entry) where
  pub is_lawful : FollowsTrails s clocks air → AreGiven s air air → ((v : ℕ) (x : Sending) → IsGiven s air v x → HasHeardEntry air v x) → LawfulLog s clocks air
  is_lawful trails are all = record {
    trails = trails;
    hearing = record {
      heard = λ v x. (
        λ there. (let given = are.given v x there in (given.ends, given.heard)),
        λ both. all v x (record { ends = both.0; heard = both.1 }),
      );
      once = are.once;
    };
  }

  pub lawful_where : (v : Verdict) → IsVerdict s clocks air v → (v ≡ Lawful) ↔ LawfulLog s clocks air
  lawful_where v is = (
    λ same. subst (λ (w : Verdict). IsVerdict s clocks air w) same is,
    λ lawful. one_verdict s clocks air v Lawful is lawful,
  )

  pub lawful_of : (r : Result Verdict Memory) → IfOk r (IsVerdict s clocks air) → IfOk r (λ v. (v ≡ Lawful) ↔ LawfulLog s clocks air)
  lawful_of (Ok v) is = lawful_where v is
  lawful_of (Err e) is = tt
