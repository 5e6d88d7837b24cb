-- What `help` and `version` print.
use Rattle.std.specs.Prelude.{ℕ, List, [], ◌∷◌, Option, Some, None, codes}
use Rattle.tmr_words.specs.declared.topic.Topic.{Topic}
use Rattle.tmr_words.specs.declared.topic.Topic.TheVariants as topic
use Rattle.tmr_words.specs.Topics.{call_of}
use Rattle.tmr_texts.specs.Texts.{joined}

-- the version of these sources
abbrev pub version : List ℕ
version = codes "1.9.3"

-- what `version` prints
unfoldable pub version_text : List ℕ
version_text = joined (codes "tmr " ∷ version ∷ codes "\n" ∷ [])

-- what `help` without a word prints: a line for each command, one for the option that most of them have, and one for each status
unfoldable pub all_help : List ℕ
all_help = joined (
    codes "commands\n"
    ∷ codes "  validate  checks a hardened netlist against its original and a certificate\n"
    ∷ codes "  harden    writes a hardened netlist and its certificate\n"
    ∷ codes "  flatten   writes a netlist as one flat model\n"
    ∷ codes "  replay    checks a hardened pair, and runs a schedule of upsets on it\n"
    ∷ codes "  report    checks a hardened pair, and tells of each partition\n"
    ∷ codes "  trial     draws a design, hardens it, and runs drawn schedules on the pair\n"
    ∷ codes "  guard     writes two copies of a netlist, with comparators and an alarm\n"
    ∷ codes "  guarded   checks that a netlist is the guarded one of another\n"
    ∷ codes "  to-aag    writes a netlist as an and-inverter graph (AIGER)\n"
    ∷ codes "  from-aag  reads such a graph, and writes it as a flat netlist\n"
    ∷ codes "  wave      does what replay does, and saves waves (VCD)\n"
    ∷ codes "  certify   finds a certificate of a hardened netlist from the two netlists alone\n"
    ∷ codes "  exposure  checks a hardened pair, and counts pairs of upsets that are too near\n"
    ∷ codes "  sweep     tells what hardening costs with partitions of each size\n"
    ∷ codes "  explain   tells each place where a hardened pair breaks a rule, and why\n"
    ∷ codes "  campaign  checks a hardened pair, and runs 64 drawn schedules on it\n"
    ∷ codes "  picture   checks a hardened pair, and draws its partitions (DOT)\n"
    ∷ codes "  help      tells this, or more of one command: tmr help COMMAND\n"
    ∷ codes "  version   tells which version of tmr this is\n"
    ∷ codes "options\n"
    ∷ codes "  --large   files may be 16 times as large, with each command that reads ORIG or AAG\n"
    ∷ codes "statuses\n"
    ∷ codes "  0  done\n"
    ∷ codes "  1  not accepted: a rule fails\n"
    ∷ codes "  2  usage: the words are no command\n"
    ∷ codes "  3  fault: a load or a save failed, or the text could not be printed\n"
    ∷ codes "  4  refused: a file is too long, or is not what it is to hold\n"
    ∷ codes "  5  want of memory\n"
    ∷ [])

-- what `help` prints of one command behind its call: what it does, which files it reads and writes, its options, what it prints, with which statuses it ends,
-- and an example
unfoldable pub validate_help : List ℕ
validate_help = joined (
    codes "Checks a hardened netlist against its original and a certificate.\n"
    ∷ codes "reads     ORIG: the original netlist, BLIF, at most 8388608 bytes\n"
    ∷ codes "          HARD: the hardened netlist, BLIF, at most 1073741824 bytes\n"
    ∷ codes "          CERT: its certificate, at most 1073741824 bytes\n"
    ∷ codes "writes    nothing\n"
    ∷ codes "options   --large    larger files: ORIG at most 134217728 bytes,\n"
    ∷ codes "                     HARD and CERT at most 17179869184\n"
    ∷ codes "prints    accepted partitions K depth D assumed A B\n"
    ∷ codes "          with a certificate of version 2: free in place of assumed\n"
    ∷ codes "          or: not accepted: rule R at PLACE\n"
    ∷ codes "statuses  0 done, 1 not accepted, 2 usage, 3 fault, 4 refused, 5 want of memory\n"
    ∷ codes "example   tmr validate and.blif and.hard.blif and.cert\n"
    ∷ [])

unfoldable pub harden_help : List ℕ
harden_help = joined (
    codes "Hardens a netlist: three copies in partitions, with voters and a certificate.\n"
    ∷ codes "reads     ORIG: a netlist, BLIF, at most 8388608 bytes\n"
    ∷ codes "writes    HARD: the hardened netlist, BLIF\n"
    ∷ codes "          CERT: its certificate, under another name than HARD\n"
    ∷ codes "options   --size S   the size of partitions, 1 to 4294967295; default 64\n"
    ∷ codes "          --cert V   the version of the certificate, 1 or 2; default 1\n"
    ∷ codes "          --depth D  the greatest depth, 1 to 4294967295; default no bound\n"
    ∷ codes "          --form F   the form, plain or lean; default plain\n"
    ∷ codes "          --large    larger files: ORIG at most 134217728 bytes,\n"
    ∷ codes "                     HARD and CERT at most 17179869184\n"
    ∷ codes "prints    five lines: nodes, partitions, voters, depth, assumed\n"
    ∷ codes "          with --cert 2: free in place of assumed\n"
    ∷ codes "statuses  0 done, 2 usage, 3 fault, 4 refused, 5 want of memory\n"
    ∷ codes "example   tmr harden and.blif and.hard.blif and.cert --size 16\n"
    ∷ [])

unfoldable pub flatten_help : List ℕ
flatten_help = joined (
    codes "Writes a netlist as one flat model. Each net is named by its path.\n"
    ∷ codes "reads     ORIG: a netlist, BLIF, at most 8388608 bytes\n"
    ∷ codes "writes    FLAT: the flat netlist, BLIF\n"
    ∷ codes "options   --large    larger files: ORIG at most 134217728 bytes\n"
    ∷ codes "prints    flat inputs I outputs O nodes N registers R assumed A\n"
    ∷ codes "statuses  0 done, 2 usage, 3 fault, 4 refused, 5 want of memory\n"
    ∷ codes "example   tmr flatten counter.blif counter.flat.blif\n"
    ∷ [])

unfoldable pub replay_help : List ℕ
replay_help = joined (
    codes "Checks a hardened pair, and runs a schedule of upsets on it.\n"
    ∷ codes "reads     ORIG: the original netlist, BLIF, at most 8388608 bytes\n"
    ∷ codes "          HARD: the hardened netlist, BLIF, at most 1073741824 bytes\n"
    ∷ codes "          CERT: its certificate, at most 1073741824 bytes\n"
    ∷ codes "          SCHED: the schedule, TOML, at most 16777216 bytes\n"
    ∷ codes "writes    nothing\n"
    ∷ codes "options   --large    larger files: ORIG at most 134217728 bytes,\n"
    ∷ codes "                     HARD and CERT at most 17179869184\n"
    ∷ codes "prints    for each of the first 1000 differences: differ T NAME O A B C\n"
    ∷ codes "          six lines: cycles, upsets, allowed, differences, wrong, late\n"
    ∷ codes "          or: not accepted: rule R at PLACE\n"
    ∷ codes "statuses  0 done, 1 not accepted, 2 usage, 3 fault, 4 refused, 5 want of memory\n"
    ∷ codes "example   tmr replay sh.blif sh.hard.blif sh.cert apart.toml\n"
    ∷ [])

unfoldable pub report_help : List ℕ
report_help = joined (
    codes "Checks a hardened pair, and tells of each partition.\n"
    ∷ codes "reads     ORIG: the original netlist, BLIF, at most 8388608 bytes\n"
    ∷ codes "          HARD: the hardened netlist, BLIF, at most 1073741824 bytes\n"
    ∷ codes "          CERT: its certificate, at most 1073741824 bytes\n"
    ∷ codes "writes    nothing\n"
    ∷ codes "options   --large    larger files: ORIG at most 134217728 bytes,\n"
    ∷ codes "                     HARD and CERT at most 17179869184\n"
    ∷ codes "prints    five lines: nodes, registers, copies, voters, partitions\n"
    ∷ codes "          part I nodes A registers S loops G depth D least L chain NAME ..\n"
    ∷ codes "          or: not accepted: rule R at PLACE\n"
    ∷ codes "statuses  0 done, 1 not accepted, 2 usage, 3 fault, 4 refused, 5 want of memory\n"
    ∷ codes "example   tmr report sh.blif sh.hard.blif sh.cert\n"
    ∷ [])

unfoldable pub trial_help : List ℕ
trial_help = joined (
    codes "Draws a design, hardens it, and runs 64 drawn schedules of upsets on the pair.\n"
    ∷ codes "words     NUMBER: what is drawn from, 0 to 18446744073709551615\n"
    ∷ codes "          NODES: how many nodes the design has, 0 to 100000\n"
    ∷ codes "reads     nothing\n"
    ∷ codes "writes    nothing\n"
    ∷ codes "options   none\n"
    ∷ codes "prints    nine lines: nodes, partitions, voters, depth,\n"
    ∷ codes "          runs, upsets, differences, wrong, late\n"
    ∷ codes "statuses  0 done, 2 usage, 3 fault, 5 want of memory\n"
    ∷ codes "example   tmr trial 7 500\n"
    ∷ [])

unfoldable pub guard_help : List ℕ
guard_help = joined (
    codes "Writes two copies of a netlist, with comparators and an alarm.\n"
    ∷ codes "reads     ORIG: a netlist, BLIF, at most 8388608 bytes\n"
    ∷ codes "writes    GUARDED: the guarded netlist, BLIF\n"
    ∷ codes "options   --large    larger files: ORIG at most 134217728 bytes\n"
    ∷ codes "prints    guard nodes N to G outputs O assumed A\n"
    ∷ codes "statuses  0 done, 2 usage, 3 fault, 4 refused, 5 want of memory\n"
    ∷ codes "example   tmr guard counter.blif counter.guarded.blif\n"
    ∷ [])

unfoldable pub guarded_help : List ℕ
guarded_help = joined (
    codes "Checks that a netlist is the guarded one of another.\n"
    ∷ codes "reads     ORIG: the original netlist, BLIF, at most 8388608 bytes\n"
    ∷ codes "          GUARDED: the guarded netlist, BLIF, at most 1073741824 bytes\n"
    ∷ codes "writes    nothing\n"
    ∷ codes "options   --large    larger files: ORIG at most 134217728 bytes,\n"
    ∷ codes "                     GUARDED at most 17179869184\n"
    ∷ codes "prints    guarded\n"
    ∷ codes "          or: not guarded: rule R at J\n"
    ∷ codes "statuses  0 done, 1 not accepted, 2 usage, 3 fault, 4 refused, 5 want of memory\n"
    ∷ codes "example   tmr guarded counter.blif counter.guarded.blif\n"
    ∷ [])

unfoldable pub to_aag_help : List ℕ
to_aag_help = joined (
    codes "Writes a netlist as an and-inverter graph (AIGER ASCII).\n"
    ∷ codes "reads     ORIG: a netlist, BLIF, at most 8388608 bytes\n"
    ∷ codes "writes    AAG: the graph\n"
    ∷ codes "options   --large    larger files: ORIG at most 134217728 bytes\n"
    ∷ codes "prints    aag inputs I outputs O latches L ands A free F\n"
    ∷ codes "statuses  0 done, 2 usage, 3 fault, 4 refused, 5 want of memory\n"
    ∷ codes "example   tmr to-aag and.blif and.aag\n"
    ∷ [])

unfoldable pub from_aag_help : List ℕ
from_aag_help = joined (
    codes "Reads an and-inverter graph (AIGER ASCII), and writes it as a flat netlist.\n"
    ∷ codes "reads     AAG: the graph, at most 8388608 bytes\n"
    ∷ codes "writes    FLAT: the flat netlist, BLIF\n"
    ∷ codes "options   --large    larger files: AAG at most 134217728 bytes\n"
    ∷ codes "prints    aag inputs I outputs O latches L ands A free F\n"
    ∷ codes "statuses  0 done, 2 usage, 3 fault, 4 refused, 5 want of memory\n"
    ∷ codes "example   tmr from-aag and.aag and.flat.blif\n"
    ∷ [])

unfoldable pub wave_help : List ℕ
wave_help = joined (
    codes "Does what replay does, and saves the outputs and their copies as waves.\n"
    ∷ codes "reads     ORIG: the original netlist, BLIF, at most 8388608 bytes\n"
    ∷ codes "          HARD: the hardened netlist, BLIF, at most 1073741824 bytes\n"
    ∷ codes "          CERT: its certificate, at most 1073741824 bytes\n"
    ∷ codes "          SCHED: the schedule, TOML, at most 16777216 bytes\n"
    ∷ codes "writes    VCD: the waves, a value change dump;\n"
    ∷ codes "          outputs of ORIG times cycles are at most 4194304\n"
    ∷ codes "options   --large    larger files: ORIG at most 134217728 bytes,\n"
    ∷ codes "                     HARD and CERT at most 17179869184\n"
    ∷ codes "prints    for each of the first 1000 differences: differ T NAME O A B C\n"
    ∷ codes "          six lines: cycles, upsets, allowed, differences, wrong, late\n"
    ∷ codes "          or: not accepted: rule R at PLACE\n"
    ∷ codes "statuses  0 done, 1 not accepted, 2 usage, 3 fault, 4 refused, 5 want of memory\n"
    ∷ codes "example   tmr wave sh.blif sh.hard.blif sh.cert apart.toml apart.vcd\n"
    ∷ [])

unfoldable pub certify_help : List ℕ
certify_help = joined (
    codes "Finds a certificate of a hardened netlist from the two netlists alone.\n"
    ∷ codes "reads     ORIG: the original netlist, BLIF, at most 8388608 bytes\n"
    ∷ codes "          HARD: the hardened netlist, BLIF, at most 1073741824 bytes\n"
    ∷ codes "writes    CERT: the certificate, under another name than ORIG and HARD\n"
    ∷ codes "options   --cert V   the version of the certificate, 1 or 2; default 1\n"
    ∷ codes "          --large    larger files: ORIG at most 134217728 bytes,\n"
    ∷ codes "                     HARD and CERT at most 17179869184\n"
    ∷ codes "prints    accepted partitions K depth D assumed A B\n"
    ∷ codes "          with --cert 2: free in place of assumed\n"
    ∷ codes "          or: no certificate: CAUSE\n"
    ∷ codes "statuses  0 done, 1 not accepted, 2 usage, 3 fault, 4 refused, 5 want of memory\n"
    ∷ codes "example   tmr certify and.blif and.hard.blif and.found.cert\n"
    ∷ [])

unfoldable pub exposure_help : List ℕ
exposure_help = joined (
    codes "Checks a hardened pair, and counts the pairs of upsets that are too near.\n"
    ∷ codes "reads     ORIG: the original netlist, BLIF, at most 8388608 bytes\n"
    ∷ codes "          HARD: the hardened netlist, BLIF, at most 1073741824 bytes\n"
    ∷ codes "          CERT: its certificate, at most 1073741824 bytes\n"
    ∷ codes "writes    nothing\n"
    ∷ codes "options   --large    larger files: ORIG at most 134217728 bytes,\n"
    ∷ codes "                     HARD and CERT at most 17179869184\n"
    ∷ codes "prints    inputs copies I I I depth 0 near X, with a certificate of version 2\n"
    ∷ codes "          part P copies N N N depth D near X for each partition with nodes\n"
    ∷ codes "          near X\n"
    ∷ codes "          or: not accepted: rule R at PLACE\n"
    ∷ codes "statuses  0 done, 1 not accepted, 2 usage, 3 fault, 4 refused, 5 want of memory\n"
    ∷ codes "example   tmr exposure sh.blif sh.hard.blif sh.cert\n"
    ∷ [])

unfoldable pub sweep_help : List ℕ
sweep_help = joined (
    codes "Tells what hardening costs with partitions of 16, 32, 64 and more nodes.\n"
    ∷ codes "reads     ORIG: a netlist, BLIF, at most 8388608 bytes\n"
    ∷ codes "writes    nothing\n"
    ∷ codes "options   --cert V   the version of the certificate, 1 or 2; default 1\n"
    ∷ codes "          --depth D  the greatest depth, 1 to 4294967295; default no bound\n"
    ∷ codes "          --form F   the form, plain or lean; default plain\n"
    ∷ codes "          --large    larger files: ORIG at most 134217728 bytes\n"
    ∷ codes "prints    nodes N registers R levels L\n"
    ∷ codes "          size S partitions K voters V percent P depth D levels L near X\n"
    ∷ codes "          for each size\n"
    ∷ codes "statuses  0 done, 2 usage, 3 fault, 4 refused, 5 want of memory\n"
    ∷ codes "example   tmr sweep sh.blif --form lean\n"
    ∷ [])

unfoldable pub explain_help : List ℕ
explain_help = joined (
    codes "Tells each place where a hardened pair breaks a rule, and why.\n"
    ∷ codes "reads     ORIG: the original netlist, BLIF, at most 8388608 bytes\n"
    ∷ codes "          HARD: the hardened netlist, BLIF, at most 1073741824 bytes\n"
    ∷ codes "          CERT: its certificate, at most 1073741824 bytes\n"
    ∷ codes "writes    nothing\n"
    ∷ codes "options   --large    larger files: ORIG at most 134217728 bytes,\n"
    ∷ codes "                     HARD and CERT at most 17179869184\n"
    ∷ codes "prints    rule R at PLACE: WHY for each of the first 100 places\n"
    ∷ codes "          and N more, where there are more\n"
    ∷ codes "          or, where all rules hold, what validate prints\n"
    ∷ codes "          behind a refusal that names a line of a file: that line\n"
    ∷ codes "statuses  0 done, 1 not accepted, 2 usage, 3 fault, 4 refused, 5 want of memory\n"
    ∷ codes "example   tmr explain and.blif and.hard.blif and.cert\n"
    ∷ [])

unfoldable pub campaign_help : List ℕ
campaign_help = joined (
    codes "Checks a hardened pair, and runs 64 drawn schedules of upsets on it.\n"
    ∷ codes "words     NUMBER: what is drawn from, 0 to 18446744073709551615\n"
    ∷ codes "          CYCLES: how many cycles each schedule has, 1 to 100000\n"
    ∷ codes "          near: pairs of upsets that the certificate does not allow\n"
    ∷ codes "reads     ORIG: the original netlist, BLIF, at most 8388608 bytes\n"
    ∷ codes "          HARD: the hardened netlist, BLIF, at most 1073741824 bytes\n"
    ∷ codes "          CERT: its certificate, at most 1073741824 bytes\n"
    ∷ codes "writes    nothing\n"
    ∷ codes "options   --large    larger files: ORIG at most 134217728 bytes,\n"
    ∷ codes "                     HARD and CERT at most 17179869184\n"
    ∷ codes "prints    five lines: runs, upsets, differences, wrong, late\n"
    ∷ codes "          with near also: first wrong CYCLE OUTPUT RUN, where one is known\n"
    ∷ codes "          or: not accepted: rule R at PLACE\n"
    ∷ codes "statuses  0 done, 1 not accepted, 2 usage, 3 fault, 4 refused, 5 want of memory\n"
    ∷ codes "example   tmr campaign sh.blif sh.hard.blif sh.cert 7 1000\n"
    ∷ [])

unfoldable pub picture_help : List ℕ
picture_help = joined (
    codes "Checks a hardened pair, and draws its partitions as a graph.\n"
    ∷ codes "reads     ORIG: the original netlist, BLIF, at most 8388608 bytes\n"
    ∷ codes "          HARD: the hardened netlist, BLIF, at most 1073741824 bytes\n"
    ∷ codes "          CERT: its certificate, at most 1073741824 bytes\n"
    ∷ codes "writes    DOT: the graph, for dot of graphviz\n"
    ∷ codes "options   --large    larger files: ORIG at most 134217728 bytes,\n"
    ∷ codes "                     HARD and CERT at most 17179869184\n"
    ∷ codes "prints    accepted partitions K depth D assumed A B\n"
    ∷ codes "          with a certificate of version 2: free in place of assumed\n"
    ∷ codes "          or: not accepted: rule R at PLACE\n"
    ∷ codes "statuses  0 done, 1 not accepted, 2 usage, 3 fault, 4 refused, 5 want of memory\n"
    ∷ codes "example   tmr picture sh.blif sh.hard.blif sh.cert sh.dot\n"
    ∷ [])

unfoldable pub help_help : List ℕ
help_help = joined (
    codes "Tells of all commands and statuses, or of one command.\n"
    ∷ codes "reads     nothing\n"
    ∷ codes "writes    nothing\n"
    ∷ codes "options   none\n"
    ∷ codes "prints    a line for each command and each status\n"
    ∷ codes "          with COMMAND: lines like these\n"
    ∷ codes "statuses  0 done, 2 usage, 3 fault, 5 want of memory\n"
    ∷ codes "example   tmr help harden\n"
    ∷ [])

unfoldable pub version_help : List ℕ
version_help = joined (
    codes "Tells which version of tmr this is.\n"
    ∷ codes "reads     nothing\n"
    ∷ codes "writes    nothing\n"
    ∷ codes "options   none\n"
    ∷ codes "prints    tmr VERSION\n"
    ∷ codes "statuses  0 done, 2 usage, 3 fault, 5 want of memory\n"
    ∷ codes "example   tmr version\n"
    ∷ [])

-- what is told of a command, behind its call
abbrev pub topic_help : Topic → List ℕ
topic_help topic.Validate = validate_help
topic_help topic.Harden = harden_help
topic_help topic.Flatten = flatten_help
topic_help topic.Replay = replay_help
topic_help topic.Report = report_help
topic_help topic.Trial = trial_help
topic_help topic.Guard = guard_help
topic_help topic.CheckGuard = guarded_help
topic_help topic.WriteGraph = to_aag_help
topic_help topic.ReadGraph = from_aag_help
topic_help topic.Wave = wave_help
topic_help topic.Certify = certify_help
topic_help topic.Exposure = exposure_help
topic_help topic.Sweep = sweep_help
topic_help topic.Explain = explain_help
topic_help topic.Campaign = campaign_help
topic_help topic.Picture = picture_help
topic_help topic.Help = help_help
topic_help topic.Version = version_help

-- how a command is called, and what is told of it
abbrev pub command_help : Topic → List ℕ
command_help topic = joined (codes "usage: tmr " ∷ call_of topic ∷ codes "\n" ∷ topic_help topic ∷ [])

-- what `help` prints: of one command, or of all where none is named
abbrev pub help_text : Option Topic → List ℕ
help_text None = all_help
help_text (Some topic) = command_help topic
