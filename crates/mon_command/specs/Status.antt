-- The number and the line of a status.
use Rattle.std.specs.Prelude.{ℕ, ◌/◌, ◌%◌, false, List, [], ◌++◌, codes, decimal}
use Rattle.std.specs.Fmt.{radix_digits}
use Rattle.pcap_reader.specs.declared.fault.PcapFault.{PcapFault}
use Rattle.pcap_reader.specs.declared.fault.PcapFault.TheVariants as pcap
use Rattle.certificate_text.specs.declared.fault.CertFault.{CertFault}
use Rattle.certificate_text.specs.declared.fault.CertFault.TheVariants as certificate
use Rattle.bound_certificate.specs.declared.verdict.TreeWhy.{TreeWhy}
use Rattle.job_format.specs.declared.fault.JobFault.{JobFault}
use Rattle.job_format.specs.declared.fault.JobFault.TheVariants as job
use Rattle.bound_certificate.specs.declared.verdict.TreeWhy.TheVariants as why
use Rattle.mon_call.specs.declared.status.Input.TheVariants as inputs
use Rattle.mon_call.specs.declared.status.Status.{Status}
use Rattle.mon_call.specs.declared.status.Phase.{Phase}
use Rattle.mon_call.specs.declared.status.Phase.TheVariants as phases
use Rattle.mon_call.specs.declared.status.Status.TheVariants.{Done, Usage, ReadFault, Topology, Trace, Infeasible, SearchBudget, RestartsSpent, StaleLimit, Certificate, Job, SinkFault, Memory}
use Rattle.replay_core.specs.declared.bad.Bad.{Bad}
use Rattle.routed_trace.specs.declared.fault.TraceFault.{TraceFault}
use Rattle.routed_trace.specs.declared.fault.TraceFault.TheVariants.{Pcap, Epochs, Weight}
use Rattle.mon_words.specs.Options.{name_of}
use Rattle.mon_words.specs.declared.usage_fault.UsageFault.{UsageFault}
use Rattle.mon_words.specs.declared.usage_fault.UsageFault.TheVariants.{NoCommand, UnknownCommand, Refused, Value}
use Rattle.topology.specs.declared.fault.Entry.{Entry}
use Rattle.topology.specs.declared.fault.Entry.TheVariants as entry
use Rattle.topology.specs.declared.fault.TopologyFault.{TopologyFault}
use Rattle.topology.specs.declared.fault.TopologyFault.TheVariants as fault
use Rattle.topology.specs.declared.fault.What.{What}
use Rattle.topology.specs.declared.fault.What.TheVariants as what

-- the number with which the program ends
abbrev pub number_of : Status → ℕ
number_of Done = 0
number_of (Usage fault) = 2
number_of (ReadFault input) = 3
number_of (Topology fault) = 4
number_of (Trace fault) = 5
number_of Infeasible = 6
number_of (SearchBudget nodes) = 7
number_of (RestartsSpent phase job bad) = 8
number_of (StaleLimit phase) = 9
number_of SinkFault = 10
number_of (Certificate fault) = 11
number_of (Job fault) = 12
number_of Memory = 13

-- one digit of a number below 16
abbrev pub nibble : ℕ → List ℕ
nibble number = radix_digits 16 false number

-- eight lower-case hexadecimal digits of a number of 32 bits
unfoldable pub eight_digits : ℕ → List ℕ
eight_digits number =
    nibble (number / 268435456) ++ (nibble (number / 16777216 % 16)
    ++ (nibble (number / 1048576 % 16) ++ (nibble (number / 65536 % 16)
    ++ (nibble (number / 4096 % 16) ++ (nibble (number / 256 % 16)
    ++ (nibble (number / 16 % 16) ++ nibble (number % 16)))))))

abbrev pub usage_line : UsageFault → List ℕ
usage_line NoCommand = codes "univmon: usage: no command"
usage_line UnknownCommand = codes "univmon: usage: unknown command"
usage_line Refused = codes "univmon: usage: words refused"
usage_line (Value option) = codes "univmon: usage: value of " ++ name_of option

abbrev pub pcap_line : PcapFault → List ℕ
pcap_line (pcap.ShortHeader at) = codes "univmon: trace: short header at " ++ decimal at
pcap_line (pcap.NotClassic magic) = codes "univmon: trace: not classic " ++ eight_digits magic
pcap_line (pcap.Version major minor) = codes "univmon: trace: version "
    ++ (decimal major ++ (codes " " ++ decimal minor))
pcap_line (pcap.Link number) = codes "univmon: trace: link " ++ decimal number
pcap_line (pcap.ShortRecord at) = codes "univmon: trace: short record at " ++ decimal at
pcap_line (pcap.LongRecord at length) = codes "univmon: trace: long record at "
    ++ (decimal at ++ (codes " length " ++ decimal length))
pcap_line pcap.TooMany = codes "univmon: trace: too many records"

abbrev pub trace_line : TraceFault → List ℕ
trace_line (Pcap fault) = pcap_line fault
trace_line (Epochs number index) = codes "univmon: trace: epoch "
    ++ (decimal index ++ (codes " at record " ++ decimal number))
trace_line (Weight number) = codes "univmon: trace: weight at record " ++ decimal number

abbrev pub entry_word : Entry → List ℕ
entry_word entry.Switch = codes "switch"
entry_word entry.Path = codes "path"

abbrev pub what_word : What → List ℕ
what_word what.List = codes "list"
what_word what.Name = codes "name"
what_word what.Capacity = codes "capacity"
what_word what.Opening = codes "open"
what_word what.Unit = codes "unit"
what_word what.From = codes "from"
what_word what.To = codes "to"
what_word what.Load = codes "load"
what_word what.Via = codes "via"

-- what is wrong with a value of an entry
unfoldable pub value_line : List ℕ → Entry → ℕ → What → List ℕ
value_line words e index w =
    codes "univmon: topology: " ++ (words
    ++ (codes " " ++ (entry_word e ++ (codes " " ++ (decimal index ++ (codes " " ++ what_word w))))))

-- what is wrong with the name of an entry
unfoldable pub name_line : List ℕ → Entry → ℕ → List ℕ
name_line words e index =
    codes "univmon: topology: " ++ (words ++ (codes " " ++ (entry_word e ++ (codes " " ++ decimal index))))

-- what is wrong with a path
unfoldable pub path_line : List ℕ → ℕ → List ℕ
path_line words path = codes "univmon: topology: " ++ (words ++ (codes " path " ++ decimal path))

abbrev pub topology_line : TopologyFault → List ℕ
topology_line fault.NotToml = codes "univmon: topology: not toml"
topology_line (fault.Missing e index w) = value_line (codes "missing") e index w
topology_line (fault.WrongKind e index w) = value_line (codes "wrong kind") e index w
topology_line (fault.Range e index w) = value_line (codes "range") e index w
topology_line (fault.BadName e index) = name_line (codes "bad name") e index
topology_line (fault.TwiceNamed e index) = name_line (codes "twice named") e index
topology_line (fault.UnknownSwitch path) = path_line (codes "unknown switch") path
topology_line (fault.TwiceVia path) = path_line (codes "twice via") path
topology_line (fault.BadPrefix path w) = path_line (codes "bad prefix") path ++ (codes " " ++ what_word w)
topology_line (fault.MixedFamily path) = path_line (codes "mixed family") path
topology_line (fault.Count e index w found) = value_line (codes "count") e index w ++ (codes " found " ++ decimal found)
topology_line fault.Memory = codes "univmon: out of memory"
topology_line fault.TooLong = codes "univmon: topology: too long"

-- why a node is wrong
abbrev pub why_words : TreeWhy → List ℕ
why_words why.NotOver = codes "not over"
why_words why.IsOver = codes "is over"
why_words why.Depth = codes "depth"
why_words why.Children = codes "children"
why_words why.HallSet = codes "hall set"
why_words why.HallLoad = codes "hall load"
why_words why.DualShape = codes "dual shape"
why_words (why.DualSum switch) = codes "dual sum " ++ decimal switch
why_words why.Idle = codes "idle"

-- what is wrong with a node
unfoldable pub node_line : ℕ → TreeWhy → List ℕ
node_line node w = codes "univmon: certificate: node " ++ (decimal node ++ (codes " " ++ why_words w))

abbrev pub certificate_line : CertFault → List ℕ
certificate_line certificate.TooLong = codes "univmon: certificate: too long"
certificate_line certificate.NoTree = codes "univmon: certificate: no tree"
certificate_line (certificate.Line number) = codes "univmon: certificate: line " ++ decimal number
certificate_line (certificate.Node node w) = node_line node w
certificate_line certificate.Memory = codes "univmon: out of memory"

-- why the input of a child is no job
abbrev pub job_line : JobFault → List ℕ
job_line job.Short = codes "univmon: job: short"
job_line job.Magic = codes "univmon: job: magic"
job_line job.Version = codes "univmon: job: version"
job_line job.Shape = codes "univmon: job: shape"
job_line job.Extra = codes "univmon: job: extra"
job_line job.Memory = codes "univmon: out of memory"

-- what children are started for
abbrev pub phase_word : Phase → List ℕ
phase_word phases.Solve = codes "solve"
phase_word phases.Replay = codes "replay"

-- the bad attempts of a job that were too many
unfoldable pub spent_line : Phase → ℕ → Bad → List ℕ
spent_line phase job bad =
    codes "univmon: restarts spent: " ++ (phase_word phase ++ (codes " job " ++ (decimal job
    ++ (codes ": start " ++ (decimal bad.start ++ (codes " feed " ++ (decimal bad.feed
    ++ (codes " died " ++ (decimal bad.died ++ (codes " reply " ++ decimal bad.reply))))))))))

-- the line that is printed on standard error, empty where the work was done
abbrev pub line_of : Status → List ℕ
line_of Done = []
line_of (Usage fault) = usage_line fault
line_of (ReadFault inputs.Topology) = codes "univmon: cannot read topology"
line_of (ReadFault inputs.Trace) = codes "univmon: cannot read trace"
line_of (ReadFault inputs.Tree) = codes "univmon: cannot read tree"
line_of (ReadFault inputs.Job) = codes "univmon: cannot read job"
line_of (Topology fault) = topology_line fault
line_of (Trace fault) = trace_line fault
line_of (Certificate fault) = certificate_line fault
line_of (Job fault) = job_line fault
line_of Infeasible = codes "univmon: infeasible"
line_of (SearchBudget nodes) = codes "univmon: search budget " ++ (decimal nodes ++ codes " spent")
line_of (RestartsSpent phase job bad) = spent_line phase job bad
line_of (StaleLimit phase) = codes "univmon: too many stale events: " ++ phase_word phase
line_of SinkFault = codes "univmon: cannot write"
line_of Memory = codes "univmon: out of memory"
