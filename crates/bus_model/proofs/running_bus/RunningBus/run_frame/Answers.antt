use Rattle.bus_model.proofs.running_bus.RunningBus.run_frame.Goals as goal

pub returns-clause-after : goal.returns-clause-after
returns-clause-after g c =
    let ran = c.in_ok-self.ensures in
    record { at = ran.at; cut = ran.cut; have = ran.power; put = ran.puts }
