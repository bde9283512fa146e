-- The made text read by the definition of a topology.
use Rattle.std.proofs.Common.{◌≡◌, ℕ, ◌+◌, ◌*◌, ◌%◌, ◌++◌, ◌∙◌, List, [], ◌∷◌, Bool, Option, Some, None, Ok, refl, ap, pos, codes, cond, decimal, length, nat_lt, true, false, unwrap_or, is_none}
use Rattle.std.specs.Fmt.{digits}
use Rattle.std.specs.List.{range_with_len}
use Rattle.toml.proofs.OnLiterals.{toml_on_literals}
use Rattle.toml.specs.Data.{Data, Items, Members, array, integer, item, member, no_items, no_members, string, table}
use Rattle.toml.specs.Parse.{parse_document}
use Rattle.trace_maker.specs.Topology.{generated_topology, network_lines, path_text, service_lines, switch_text}
use Rattle.flow_keys.specs.Prefix.{bits_of, ipv4_address, ipv4_words, numbers_of, prefix_between, prefix_of, with_length}
use Rattle.std.specs.Str.{chars, is_utf8}
use Rattle.topology.specs.Faults.{first_fault, first_from, when}
use Rattle.topology.specs.Paths.{ends_fault, ends_of, need_fault, need_of, path_fault, path_fault_in, paths_fault, prefix_at, prefix_fault}
use Rattle.topology.specs.Switches.{name_of, site_of, switch_fault, switch_fault_in, switches_fault}
use Rattle.topology.specs.declared.fault.TopologyFault.{TopologyFault}
use Rattle.topology.specs.declared.fault.TopologyFault.TheVariants as fault
use Rattle.topology.specs.Topology.{answer, document_fault, document_of, file_fault, root_of, switch_names_of, topo_of, topology_of}
use Rattle.topology.specs.Via.{hop_fault, hop_fault_in, number_of, via_fault, via_of}
use Rattle.maker_laws.specs.Topology.{made_topology, path_name, switch_name}

-- a switch as a table of the file
abbrev pub switch_table : ℕ → Data
switch_table switch =
    table (member (codes "capacity") (integer (pos 400))
    (member (codes "name") (string (switch_name switch))
    (member (codes "open") (integer (pos (100 + 10 * switch)))
    (member (codes "unit") (integer (pos (1 + switch % 3))) no_members))))

-- the text of a network
abbrev pub network_text : ℕ → List ℕ
network_text n = codes "10." ++ (decimal n ++ codes ".0.0/16")

-- the switches of a path
abbrev pub via_array : ℕ → Data
via_array path =
    array (item (string (switch_name (path % 12)))
    (item (string (switch_name ((path + 1) % 12)))
    (item (string (switch_name ((path + 5) % 12))) no_items)))

-- a path as a table of the file
abbrev pub path_table : ℕ → Data
path_table path =
    table (member (codes "from") (string (network_text path))
    (member (codes "load") (integer (pos (20 + 7 * path % 41)))
    (member (codes "name") (string (path_name path))
    (member (codes "to") (string (network_text (100 + path)))
    (member (codes "via") (via_array path) no_members)))))

abbrev pub items_of : (ℕ → Data) → List ℕ → Items
items_of data_of [] = no_items
items_of data_of (n ∷ ns) = item (data_of n) (items_of data_of ns)

-- the whole file as a table
unfoldable pub made_members : Members
made_members =
    member (codes "path") (array (items_of path_table (range_with_len 0 30)))
    (member (codes "switch") (array (items_of switch_table (range_with_len 0 12))) no_members)

pub spelled : parse_document generated_topology ≡ Some made_members
unfolding toml_on_literals switch_text network_lines service_lines path_text digits generated_topology made_members
spelled = refl

seen : topo_of (table made_members) ≡ made_topology
unfolding made_members made_topology topo_of name_of site_of ends_of prefix_at need_of via_of number_of prefix_of prefix_between with_length bits_of ipv4_address ipv4_words numbers_of digits
seen = refl

switches_fit : switches_fault (table made_members) ≡ None
unfolding made_members switches_fault switch_fault_in switch_fault name_of first_from digits
switches_fit = refl

short : nat_lt 1048576 (length generated_topology) ≡ false
unfolding switch_text network_lines service_lines path_text digits generated_topology
short = refl

paths_fit : paths_fault (switch_names_of (table made_members)) (table made_members) ≡ None
unfolding made_members paths_fault path_fault_in path_fault ends_fault prefix_fault prefix_at need_fault via_fault hop_fault_in hop_fault number_of name_of first_from prefix_of prefix_between with_length bits_of ipv4_address ipv4_words numbers_of digits
paths_fit = refl

readable : is_utf8 generated_topology ≡ true
unfolding is_utf8 chars switch_text network_lines service_lines path_text digits generated_topology lib.Utf8.encode
readable = refl

document : document_of generated_topology ≡ Some made_members
unfolding document_of
document = ap (λ (b : Bool). cond b (parse_document generated_topology) None) readable ∙ spelled

root : root_of generated_topology ≡ table made_members
unfolding root_of
root = ap (λ (found : Option Members). table (unwrap_or found no_members)) document

document_fits : document_fault (table made_members) ≡ None
unfolding document_fault
document_fits =
    ap (λ (first : Option TopologyFault). first_fault (first
    ∷ paths_fault (switch_names_of (table made_members)) (table made_members) ∷ [])) switches_fit
    ∙ ap (λ (second : Option TopologyFault). first_fault (None ∷ second ∷ [])) paths_fit

fits : file_fault generated_topology ≡ None
unfolding file_fault
fits = ap (λ (b : Bool). first_fault (when b fault.TooLong ∷ when (is_none (document_of generated_topology)) fault.NotToml
    ∷ document_fault (root_of generated_topology) ∷ [])) short
    ∙ ap (λ (found : Option Members). first_fault (None ∷ when (is_none found) fault.NotToml
    ∷ document_fault (root_of generated_topology) ∷ [])) document
    ∙ ap (λ (d : Data). first_fault (None ∷ None ∷ document_fault d ∷ [])) root
    ∙ ap (λ (found : Option TopologyFault). first_fault (None ∷ None ∷ found ∷ [])) document_fits

-- the made text spells the topology of its numbers
pub accepted : topology_of generated_topology ≡ Ok made_topology
unfolding topology_of
accepted = ap (λ (found : Option TopologyFault). answer found (topo_of (root_of generated_topology))) fits
    ∙ ap (λ (d : Data). Ok (topo_of d)) root ∙ ap (λ (topo : _). Ok topo) seen
