use Rattle.std.proofs.Common.{map, string_bytes}
use Rattle.sim_words.specs.Given.{given_of}
use Rattle.sim_words.specs.Asked.{dump_names, dump_of, exec_names, exec_of, gen_names, gen_of, if_read, sat_names, sat_of, sim_names, sim_of, slack_names, slack_of}
use Rattle.sim_words.proofs.Accepted.{dump-accepted, exec-accepted, gen-accepted, given-accepted, read-accepted, sat-accepted, sim-accepted, slack-accepted}
use Rattle.sim_words.proofs.words.read_words.Goals as goal

pub returns-in-sim-clause-accepted : goal.returns-in-sim-clause-accepted
returns-in-sim-clause-accepted c =
    let words = map string_bytes c.in-Some.words.now in
    read-accepted (if_read (given_of sim_names words) sim_of) c.read_sim.result c.read_sim.ensures (given-accepted sim_names words sim_of sim-accepted)

pub returns-in-exec-clause-accepted : goal.returns-in-exec-clause-accepted
returns-in-exec-clause-accepted c =
    let words = map string_bytes c.in-Some.words.now in
    read-accepted (if_read (given_of exec_names words) exec_of) c.read_exec.result c.read_exec.ensures (given-accepted exec_names words exec_of exec-accepted)

pub returns-in-gen-clause-accepted : goal.returns-in-gen-clause-accepted
returns-in-gen-clause-accepted c =
    let words = map string_bytes c.in-Some.words.now in
    read-accepted (if_read (given_of gen_names words) gen_of) c.read_gen.result c.read_gen.ensures (given-accepted gen_names words gen_of gen-accepted)

pub returns-in-dump-clause-accepted : goal.returns-in-dump-clause-accepted
returns-in-dump-clause-accepted c =
    let words = map string_bytes c.in-Some.words.now in
    read-accepted (if_read (given_of dump_names words) dump_of) c.read_dump.result c.read_dump.ensures (given-accepted dump_names words dump_of dump-accepted)

pub returns-in-sat-clause-accepted : goal.returns-in-sat-clause-accepted
returns-in-sat-clause-accepted c =
    let words = map string_bytes c.in-Some.words.now in
    read-accepted (if_read (given_of sat_names words) sat_of) c.read_sat.result c.read_sat.ensures (given-accepted sat_names words sat_of sat-accepted)

pub returns-in-slack-clause-accepted : goal.returns-in-slack-clause-accepted
returns-in-slack-clause-accepted c =
    let words = map string_bytes c.in-Some.words.now in
    read-accepted (if_read (given_of slack_names words) slack_of) c.read_slack.result c.read_slack.ensures (given-accepted slack_names words slack_of slack-accepted)
