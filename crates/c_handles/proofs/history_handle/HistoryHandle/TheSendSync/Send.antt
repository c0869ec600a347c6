-- A handle is `Send` because its history is.
use Rattle.c_handles.proofs.Sent.{IsSend, AllSend, owning_send, struct_send, sendable, quiet, held_keyless, exits_of, shape, fields, to}
use Rattle.c_handles.specs.contracts.history.History as history
use Rattle.c_handles.proofs.history.History.TheSendSync.{the_send as history_send}
use Rattle.c_handles.specs.contracts.history_handle.HistoryHandle.{the_row, the_type}

pub send : IsSend the_row
send =
    let all : AllSend (fields the_type) = (search sendable, (search sendable, tt)) in
    owning_send the_type all (λ d. held_keyless history.the_row history_send d.is_open d.at d.history)
    (λ k. quiet (to the_type) (exits_of k (fields the_type)) ((struct_send (shape the_type) all).leaving k))
