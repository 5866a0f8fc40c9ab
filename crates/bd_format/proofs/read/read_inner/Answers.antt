use Rattle.std.proofs.Common.{subst}
use Rattle.std.specs.Option.{option_map}
use Rattle.std.specs.List.{flat_map}
use Rattle.bd_wire.proofs.EncodingLemmas.{BeginsNone-first, BeginsNone-second}
use Rattle.bd_message.specs.Messages.{IsMessage}
use Rattle.bd_message.specs.Codec.{message_bytes}
use Rattle.bd_format.specs.Images.{edge_bytes}
use Rattle.bd_format.specs.Parts.{AreOf, AreReadAs, FitsEdge}
use Rattle.bd_format.proofs.Alone.{edges_alone}
use Rattle.bd_format.proofs.Rest.{no_inner, inner_read}
use Rattle.bd_format.proofs.read.read_inner.Goals as goal

pub returns-in_default : goal.returns-in_default
returns-in_default c =
    let none = subst (λ found. AreReadAs c.args.head.items FitsEdge edge_bytes c.args.cursor.now c.read_edges.new.cursor (option_map (λ edges. edges.items) found)) c.in_default.is c.in_ok-edges.ensures in
    no_inner c.args.head c.args.cursor.now.left c.requires.fits c.requires.level
    (BeginsNone-first (AreOf c.args.head.items FitsEdge) (AreOf c.args.head.messages IsMessage) (flat_map edge_bytes) (flat_map message_bytes) c.args.cursor.now.left none)

pub returns-in_ok-indexed-in-Some-2 : goal.returns-in_ok-indexed-in-Some-2
returns-in_ok-indexed-in-Some-2 c =
    let edges = subst (λ found. AreReadAs c.args.head.items FitsEdge edge_bytes c.args.cursor.now c.read_edges.new.cursor (option_map (λ edges. edges.items) found)) c.in-Some.is c.in_ok-edges.ensures in
    let messages = subst (λ found. AreReadAs c.args.head.messages IsMessage message_bytes c.read_edges.new.cursor c.read_messages.new.cursor (option_map (λ messages. messages.items) found)) c.in-Some-2.is c.in_ok-messages.ensures in
    inner_read c.args.head c.in-Some.edges.items c.from_vec.result c.in-Some-2.messages.items c.in_ok-indexed-in-Some-2.field-0 c.args.cursor.now c.read_edges.new.cursor c.read_messages.new.cursor
    c.requires.fits c.requires.level c.from_vec.ensures c.in_ok-indexed-in-Some-2.ensures edges.0 edges.1 messages.0 messages.1

pub returns-in-None : goal.returns-in-None
returns-in-None c =
    let edges = subst (λ found. AreReadAs c.args.head.items FitsEdge edge_bytes c.args.cursor.now c.read_edges.new.cursor (option_map (λ edges. edges.items) found)) c.in-Some.is c.in_ok-edges.ensures in
    let none = subst (λ found. AreReadAs c.args.head.messages IsMessage message_bytes c.read_edges.new.cursor c.read_messages.new.cursor (option_map (λ messages. messages.items) found)) c.in-None.is c.in_ok-messages.ensures in
    no_inner c.args.head c.args.cursor.now.left c.requires.fits c.requires.level
    (BeginsNone-second (AreOf c.args.head.items FitsEdge) (AreOf c.args.head.messages IsMessage) (flat_map edge_bytes) (flat_map message_bytes) c.args.cursor.now.left
    c.in-Some.edges.items c.read_edges.new.cursor.left (edges_alone c.args.head.items) edges.0 edges.1.front none)
