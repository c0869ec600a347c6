-- A handle is `Send` because its line is.
use Rattle.c_handles.proofs.Sent.{IsSend, AllSend, owning_send, struct_send, sendable, quiet, held_keyless, exits_of, shape, fields, to}
use Rattle.c_handles.specs.contracts.line.OwnedLine as line
use Rattle.c_handles.proofs.line.OwnedLine.TheSendSync.{the_send as line_send}
use Rattle.c_handles.specs.contracts.line_handle.LineHandle.{the_row, the_type}

pub send : IsSend the_row
send =
    let all : AllSend (fields the_type) = (search sendable, (search sendable, tt)) in
    owning_send the_type all (λ d. held_keyless line.the_row line_send d.is_open d.at d.line)
    (λ k. quiet (to the_type) (exits_of k (fields the_type)) ((struct_send (shape the_type) all).leaving k))
