-- The commands: the words that ask for each, whether it reads, and which bytes its grammar rejects.
use Rattle.std.specs.Prelude.{◌≡◌, ◌<◌, ◌^◌, ℕ, List, [], ◌∷◌, Bool, true, false, Option, None, String, codes, decimal, map, string_bytes}
use Rattle.std.specs.declared.alloc.Global.{Global}
use Rattle.std.specs.Result.{result_err}
use Rattle.scenario_text.specs.FloodGrammar.{flood_of}
use Rattle.scenario_text.specs.ScenarioGrammar.{scenario_of}
use Rattle.text_readers.specs.declared.fault.FaultKind.{FaultKind}
use Rattle.scenario_maker.specs.Made.{IsSize}
use Rattle.deadline_plan.specs.DeadlineText.{plan_of}
use Rattle.air_check.specs.CheckedText.{checked_text}
use Rattle.command_line.specs.TextsDue.{AskForOne, AskToRead}
use Rattle.run_commands.specs.declared.command.Command.{Command}
use Rattle.run_commands.specs.declared.command.Command.TheVariants.{Flood, Run, Log, Bus, Demo, Check, Deadlines, Times, Return}

-- words of these bytes ask for this command. A seed has at most 13 digits
abbrev pub Spell : List (List ℕ) → Command → Type 0
Spell words Flood = words ≡ codes "flood" ∷ []
Spell words Run = words ≡ codes "run" ∷ []
Spell words Log = words ≡ codes "log" ∷ []
Spell words Bus = words ≡ codes "bus" ∷ []
Spell words (Demo seed nodes frames) =
    (words ≡ codes "demo" ∷ decimal seed ∷ decimal nodes ∷ decimal frames ∷ []) × (seed < 10 ^ 13) × IsSize nodes frames
Spell words Check = words ≡ codes "check" ∷ []
Spell words Deadlines = words ≡ codes "deadlines" ∷ []
Spell words Times = words ≡ codes "times" ∷ []
Spell words Return = words ≡ codes "return" ∷ []

abbrev pub Asks : List (String Global) → Command → Type 0
Asks words c = Spell (map string_bytes words) c

-- whether it reads its source
abbrev pub reads : Command → Bool
reads (Demo seed nodes frames) = false
reads other = true

-- the first fault of the bytes that it reads, by its grammar
abbrev pub fault_of : Command → List ℕ → Option (ℕ × FaultKind)
fault_of Flood b = result_err (flood_of b)
fault_of Run b = result_err (scenario_of b)
fault_of Log b = result_err (scenario_of b)
fault_of Bus b = result_err (scenario_of b)
fault_of (Demo seed nodes frames) b = None
fault_of Check b = result_err (checked_text b)
fault_of Deadlines b = result_err (plan_of b)
fault_of Times b = result_err (scenario_of b)
fault_of Return b = result_err (scenario_of b)

-- the words ask for some command, and for one that reads
abbrev pub IsCommand : List (String Global) → Type 0
IsCommand = AskForOne Asks

abbrev pub IsReading : List (String Global) → Type 0
IsReading = AskToRead Asks reads

abbrev pub usage : List ℕ
usage = codes "usage: flood | run | log | bus | demo SEED NODES FRAMES | check | deadlines | times | return\n"
