-- The definition of a scenario's text, tried on small texts.
use Rattle.std.proofs.Common.{◌≡◌, ℕ, negsuc, List, [], ◌∷◌, ◌++◌, true, false, Some, Ok, Err, Result, refl, codes, map}
use Rattle.std.specs.Str.{is_utf8, chars}
use lib.Utf8.{encode}
use Rattle.lwb_base.specs.Profile.{one, contended}
use Rattle.link_trace.specs.Sealed.{no_lines}
use Rattle.scenario_text.specs.Network.{network_line}
use Rattle.scenario_text.specs.Payloads.{is_payload, payload}
use Rattle.scenario_text.specs.ScenarioParts.{ScenarioParts}
use Rattle.scenario_text.specs.ScriptGrammar.{script_line, step_line, put_line}
use Rattle.scenario_text.specs.ScenarioGrammar.{scenario_of, scenario_after_words, scenario_line}
use Rattle.text_readers.specs.Reading.{draft_after_line}
use Rattle.text_readers.specs.declared.fault.FaultKind.{FaultKind}
use Rattle.text_readers.specs.declared.fault.FaultKind.TheVariants.{NotUtf8, BadWord, BadNumber, Range, UnknownNode, Order, Twice, Missing}
use Rattle.bus_rules.specs.declared.act.Act.TheVariants as act

payloads : map payload (codes "-" ∷ codes "aA0f" ∷ []) ≡ Some [] ∷ Some (170 ∷ 15 ∷ []) ∷ []
payloads = refl

spelled_payloads : map is_payload (codes "-" ∷ codes "aA" ∷ codes "a" ∷ codes "ag" ∷ codes "--" ∷ codes "-a" ∷ []) ≡ true ∷ true ∷ false
    ∷ false ∷ false ∷ false ∷ []
spelled_payloads = refl

abbrev base : List ℕ
base = codes "sends 2\nnode 1 0\nnode 2 0\nhost 0 1\npair 1 2\n"

abbrev pub first_round_parts : ScenarioParts
first_round_parts = record {
  profile = one;
  frames = 6;
  sends = 2;
  nodes = record { node = 1; offset = 0 } ∷ record { node = 2; offset = 0 } ∷ [];
  rates = [];
  hosts = 1 ∷ [];
  trace = record no_lines { links = record { from = 1; to = 2 } ∷ record { from = 2; to = 1 } ∷ [] };
  script = record { frame = 0; node = 1; act = act.On } ∷ record { frame = 0; node = 2; act = act.On } ∷ [];
}

first_round : scenario_of (base ++ codes "frames 6\non 0 1\non 0 2") ≡ Ok first_round_parts
unfolding draft_after_line scenario_after_words scenario_line script_line step_line put_line network_line is_utf8 chars encode
first_round = refl

abbrev pub every_line_parts : ScenarioParts
every_line_parts = record {
  profile = contended 3;
  frames = 6;
  sends = 2;
  nodes = record { node = 1; offset = 0 } ∷ record { node = 2; offset = 0 } ∷ [];
  rates = record { node = 2; from = 1310720000000; ppm = negsuc 19 } ∷ [];
  hosts = 1 ∷ [];
  trace = record {
    links = record { from = 1; to = 2 } ∷ record { from = 2; to = 1 } ∷ [];
    losses = record { frame = 5; slot = 45; step = 11; from = 1; to = 2 } ∷ [];
    cuts = record { frame = 5; slot = 0; step = 0; node = 1 } ∷ [];
    captures = record { frame = 0; slot = 45; step = 1; at = 1; from = 2 } ∷ [];
  };
  script = record { frame = 0; node = 2; act = act.On } ∷ record { frame = 0; node = 2; act = act.Declare 3 120 }
      ∷ record { frame = 1; node = 2; act = act.Put 3 [] } ∷ record { frame = 1; node = 2; act = act.Put 0 (171 ∷ []) }
      ∷ record { frame = 2; node = 2; act = act.Leave 3 } ∷ record { frame = 5; node = 2; act = act.Off } ∷ [];
}

every_line : scenario_of (codes "# all\nprofile 2\n\ncontend 3\n" ++ base
    ++ codes "frames 6\nrate 2 1310720000000 -20\non 0 2\nstream 0 2 3 120\nput 1 2 3 -\nput 1 2 0 AB\nleave 2 2 3\noff 5 2\n"
    ++ codes "lose 5 45 11 1 2\ncut 5 0 0 1\ncapture 0 45 1 1 2\n")
    ≡ Ok every_line_parts
unfolding draft_after_line scenario_after_words scenario_line script_line step_line put_line network_line is_utf8 chars encode
every_line = refl

-- whole texts and their faults
abbrev fault : List ℕ → Result ScenarioParts (ℕ × FaultKind)
fault text = scenario_of text

texts : map fault (
    [] ∷ codes "profile 3" ∷ codes "contend 2" ∷ codes "frames 012" ∷ codes "frames 4097" ∷ codes "frames 2\nprofile 1"
    ∷ codes "frames 2\nsends" ∷ codes "node 1 0\non 0 1"
    ∷ codes "node 1 0\nlink 1 9" ∷ codes "node 1 0\nlink 1 1" ∷ (255 ∷ []) ∷ codes "frames 2\r\n" ∷ codes "frames 2\r" ∷ codes "\r"
    ∷ codes "profile 1\ncontend 1" ∷ codes "profile 2\nsends 1\ncontend 1"
    ∷ codes "profile 2\n#\n \ncontend 1\ncontend 1" ∷ codes "profile 2\nprofile 2" ∷ []
    )
    ≡ Err (1, Missing) ∷ Err (1, Range) ∷ Err (1, Order) ∷ Err (1, BadNumber) ∷ Err (1, Range) ∷ Err (2, Order) ∷ Err (2, BadWord) ∷ Err (2, Order)
    ∷ Err (2, UnknownNode) ∷ Err (2, Range) ∷ Err (1, NotUtf8) ∷ Err (2, Missing) ∷ Err (1, BadNumber) ∷ Err (1, BadWord) ∷ Err (2, Order) ∷ Err (3, Order)
    ∷ Err (5, Order) ∷ Err (2, Order) ∷ []
unfolding draft_after_line scenario_after_words scenario_line script_line step_line put_line network_line is_utf8 chars encode
texts = refl

-- after the base text and `frames 12`: lines, and their faults
abbrev refused : List ℕ → Result ScenarioParts (ℕ × FaultKind)
refused lines = scenario_of (base ++ codes "frames 12\n" ++ lines)

faults : map refused (
    codes "put 0 2 0 a" ∷ codes "put 0 2 0 -a" ∷ codes "put 0 2 0 aa aa" ∷ codes "lose 0 1 2" ∷ codes "start 1" ∷ codes "put 01 2 0 aa" ∷ codes "put 0 2 4 aa"
    ∷ codes "lose 12 0 0 1 2" ∷ codes "lose 0 43 0 1 2" ∷ codes "cut 0 0 12 1" ∷ codes "capture 0 0 0 1 1" ∷ codes "host 4 2"
    ∷ codes "stream 0 2 0 0" ∷ codes "stream 0 2 0 121"
    ∷ codes "on 0 3" ∷ codes "host 1 3" ∷ codes "capture 0 0 0 1 3" ∷ codes "host 2 2" ∷ codes "frames 13" ∷ codes "host 0 2" ∷ codes "host 1 1" ∷ []
    )
    ≡ Err (7, BadWord) ∷ Err (7, BadWord) ∷ Err (7, BadWord) ∷ Err (7, BadWord) ∷ Err (7, BadWord) ∷ Err (7, BadNumber) ∷ Err (7, Range)
    ∷ Err (7, Range) ∷ Err (7, Range) ∷ Err (7, Range) ∷ Err (7, Range) ∷ Err (7, Range) ∷ Err (7, Range) ∷ Err (7, Range)
    ∷ Err (7, UnknownNode) ∷ Err (7, UnknownNode) ∷ Err (7, UnknownNode) ∷ Err (7, Order) ∷ Err (7, Twice) ∷ Err (7, Twice) ∷ Err (7, Twice) ∷ []
unfolding draft_after_line scenario_after_words scenario_line script_line step_line put_line network_line is_utf8 chars encode
faults = refl

second_faults : map refused (codes "off 5 1\nput 4 1 0 -" ∷ codes "cut 1 2 3 1\ncut 1 2 3 1"
    ∷ codes "capture 1 2 3 1 2\nnode 3 0\ncapture 1 2 3 1 3" ∷ codes "lose 1 2 3 1 2\nlose 1 2 3 1 2" ∷ [])
    ≡ Err (8, Order) ∷ Err (8, Twice) ∷ Err (9, Twice) ∷ Err (8, Twice) ∷ []
unfolding draft_after_line scenario_after_words scenario_line script_line step_line put_line network_line is_utf8 chars encode
second_faults = refl

no_host : scenario_of (codes "sends 2\nnode 1 0\nnode 2 0\nframes 1\n") ≡ Err (5, Missing)
unfolding draft_after_line scenario_after_words scenario_line script_line step_line put_line network_line is_utf8 chars encode
no_host = refl
