-- Who receives what by a log.
use Rattle.std.specs.Prelude.{ℕ, List}
use Rattle.lwb_base.specs.Profile.{Numbers}
use Rattle.link_trace.specs.Passes.{Lines}
use Rattle.air_log.specs.declared.entry.Entry.{Entry}
use Rattle.radio_model.specs.declared.sending.Sending.{Sending}
use Rattle.air_log.specs.Entries.{sendings_of, tunings_of}
use Rattle.radio_model.specs.Hearing.{Scene, HearsInScene}

-- the scene of a log
abbrev pub scene_of : Numbers → Lines → List Entry → Scene
scene_of p lines air = record { numbers = p; lines = lines; sendings = sendings_of air; tunings = tunings_of air }

abbrev pub HearsAir : Numbers → Lines → List Entry → ℕ → Sending → Type 0
HearsAir p lines air v x = HearsInScene (scene_of p lines air) v x
