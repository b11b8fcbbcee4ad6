-- Internal: what a command has to write.
use Rattle.std.specs.Prelude.{◌≡◌, ◌+◌, ◌<◌, ◌^◌, ⊤, ℕ, List, String, map, string_bytes}
use Rattle.std.specs.declared.alloc.Global.{Global}
use Rattle.scenario_text.specs.FloodParts.{node_id}
use Rattle.command_line.specs.TextsDue.{IsFaultLine}
use Rattle.command_line.specs.declared.answer.Answer.{Answer}
use Rattle.command_line.specs.declared.answer.Answer.TheVariants.{Report, Fault, Parts}
use Rattle.plan_commands.specs.Commands.{Asks, fault_of}
use Rattle.plan_commands.specs.Reports.{IsReport}
use Rattle.plan_commands.specs.SeedTexts.{seeds_text}
use Rattle.plan_commands.specs.declared.command.Command.{Command}
use Rattle.plan_commands.specs.declared.command.Command.TheVariants.{Sample}
use Rattle.plan_commands.specs.declared.sampled_network.SampledNetwork.{SampledNetwork}

-- the texts of the seeds of a sample
abbrev pub sampled_text : SampledNetwork → List ℕ
sampled_text x = seeds_text x.scenario x.ratios.lines x.from x.count

-- the ratios are of its nodes, and its seeds have 64 bits
abbrev pub CanBeSampled : SampledNetwork → Type 0
CanBeSampled x = (x.ratios.nodes ≡ map node_id x.scenario.nodes) × (x.from + x.count < 2 ^ 64)

-- it is what this command samples
abbrev pub IsSampledBy : Command → SampledNetwork → Type 0
IsSampledBy c x = (c ≡ Sample x.from x.count) × CanBeSampled x

abbrev pub Answers : Command → List ℕ → Answer ⊤ SampledNetwork → Type 0
Answers c b (Report text log) = IsReport c b (string_bytes text)
Answers c b (Fault text) = IsFaultLine (fault_of c b) (string_bytes text)
Answers c b (Parts x) = IsSampledBy c x × IsReport c b (sampled_text x)

-- some words ask for it, so its numbers are in range
abbrev pub IsAsked : Command → Type 0
IsAsked c = (words : List (String Global)) × Asks words c
