use Rattle.std.proofs.Common.{refl}
use Rattle.core_isa.specs.declared.instr.Instr.TheVariants as I
use Rattle.core_cpu.proofs.Here.{fits_here, exist_here, follow_here, silent_here, open_here, turned}
use Rattle.core_cpu.proofs.run.ask.Goals as goal

pub counter-requires : goal.counter-requires
counter-requires c = silent_here c.args.code.now c.args.state.now c.args.instr c.requires.can I.Counter c.in-Counter.is refl

pub returns-in-Counter : goal.returns-in-Counter
returns-in-Counter c = turned c.args.code.now c.args.instr I.Counter c.args.state.now c.counter.new.state c.counter.result c.in-Counter.is (c.counter.ensures c.args.code.now)

pub reset-requires : goal.reset-requires
reset-requires c = silent_here c.args.code.now c.args.state.now c.args.instr c.requires.can I.Reset c.in-Reset.is refl

pub returns-in-Reset : goal.returns-in-Reset
returns-in-Reset c = turned c.args.code.now c.args.instr I.Reset c.args.state.now c.reset.new.state c.reset.result c.in-Reset.is (c.reset.ensures c.args.code.now)

pub wait-requires-clause-closed : goal.wait-requires-clause-closed
wait-requires-clause-closed c = silent_here c.args.code.now c.args.state.now c.args.instr c.requires.can I.Wait c.in-Wait.is refl

pub wait-requires-clause-fits : goal.wait-requires-clause-fits
wait-requires-clause-fits c = fits_here c.args.code.now c.args.state.now c.args.instr c.requires.can 1 0 (follow_here c.args.code.now c.args.state.now c.args.instr c.requires.can I.Wait c.in-Wait.is)

pub returns-in-Wait : goal.returns-in-Wait
returns-in-Wait c = turned c.args.code.now c.args.instr I.Wait c.args.state.now c.wait.new.state c.wait.result c.in-Wait.is (c.wait.ensures c.args.code.now)

pub edge-requires-clause-closed : goal.edge-requires-clause-closed
edge-requires-clause-closed c = silent_here c.args.code.now c.args.state.now c.args.instr c.requires.can (I.Edge c.in-Edge.channel) c.in-Edge.is refl

pub edge-requires-clause-fits : goal.edge-requires-clause-fits
edge-requires-clause-fits c = fits_here c.args.code.now c.args.state.now c.args.instr c.requires.can 1 1 (follow_here c.args.code.now c.args.state.now c.args.instr c.requires.can (I.Edge c.in-Edge.channel) c.in-Edge.is)

pub returns-in-Edge : goal.returns-in-Edge
returns-in-Edge c = turned c.args.code.now c.args.instr (I.Edge c.in-Edge.channel) c.args.state.now c.edge.new.state c.edge.result c.in-Edge.is (c.edge.ensures c.args.code.now)

pub play_handle-requires-clause-closed : goal.play_handle-requires-clause-closed
play_handle-requires-clause-closed c = silent_here c.args.code.now c.args.state.now c.args.instr c.requires.can I.PlayHandle c.in-PlayHandle.is refl

pub play_handle-requires-clause-fits : goal.play_handle-requires-clause-fits
play_handle-requires-clause-fits c = fits_here c.args.code.now c.args.state.now c.args.instr c.requires.can 1 0 (follow_here c.args.code.now c.args.state.now c.args.instr c.requires.can I.PlayHandle c.in-PlayHandle.is)

pub returns-in-PlayHandle : goal.returns-in-PlayHandle
returns-in-PlayHandle c = turned c.args.code.now c.args.instr I.PlayHandle c.args.state.now c.play_handle.new.state c.play_handle.result c.in-PlayHandle.is (c.play_handle.ensures c.args.code.now)

pub save-requires : goal.save-requires
save-requires c = open_here c.args.code.now c.args.state.now c.args.instr c.requires.can ((follow_here c.args.code.now c.args.state.now c.args.instr c.requires.can I.Save c.in-Save.is).1)

pub returns-in-Save : goal.returns-in-Save
returns-in-Save c = turned c.args.code.now c.args.instr I.Save c.args.state.now c.save.new.state c.save.result c.in-Save.is (c.save.ensures c.args.code.now)

pub play-requires-clause-closed : goal.play-requires-clause-closed
play-requires-clause-closed c = silent_here c.args.code.now c.args.state.now c.args.instr c.requires.can (I.Play c.in-Play.name) c.in-Play.is refl

pub play-requires-clause-name : goal.play-requires-clause-name
play-requires-clause-name c = exist_here c.args.code.now c.args.state.now c.args.instr c.requires.can (I.Play c.in-Play.name) c.in-Play.is

pub handle-requires-clause-closed : goal.handle-requires-clause-closed
handle-requires-clause-closed c = silent_here c.args.code.now c.args.state.now c.args.instr c.requires.can (I.Handle c.in-Handle.name) c.in-Handle.is refl

pub handle-requires-clause-name : goal.handle-requires-clause-name
handle-requires-clause-name c = exist_here c.args.code.now c.args.state.now c.args.instr c.requires.can (I.Handle c.in-Handle.name) c.in-Handle.is

pub erase-requires-clause-closed : goal.erase-requires-clause-closed
erase-requires-clause-closed c = silent_here c.args.code.now c.args.state.now c.args.instr c.requires.can (I.Erase c.in-Erase.name) c.in-Erase.is refl

pub erase-requires-clause-name : goal.erase-requires-clause-name
erase-requires-clause-name c = exist_here c.args.code.now c.args.state.now c.args.instr c.requires.can (I.Erase c.in-Erase.name) c.in-Erase.is

pub data_int-requires-clause-closed : goal.data_int-requires-clause-closed
data_int-requires-clause-closed c = silent_here c.args.code.now c.args.state.now c.args.instr c.requires.can (I.DataInt c.in-DataInt.name) c.in-DataInt.is refl

pub data_int-requires-clause-name : goal.data_int-requires-clause-name
data_int-requires-clause-name c = exist_here c.args.code.now c.args.state.now c.args.instr c.requires.can (I.DataInt c.in-DataInt.name) c.in-DataInt.is

pub data_int-requires-clause-fits : goal.data_int-requires-clause-fits
data_int-requires-clause-fits c = fits_here c.args.code.now c.args.state.now c.args.instr c.requires.can 1 0 (follow_here c.args.code.now c.args.state.now c.args.instr c.requires.can (I.DataInt c.in-DataInt.name) c.in-DataInt.is)
