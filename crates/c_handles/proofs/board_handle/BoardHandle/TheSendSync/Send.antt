-- A handle is `Send` because its board is.
use Rattle.c_handles.proofs.Sent.{IsSend, AllSend, owning_send, struct_send, sendable, quiet, held_keyless, exits_of, shape, fields, to}
use Rattle.c_handles.specs.contracts.any_board.AnyBoard as board
use Rattle.c_handles.proofs.any_board.AnyBoard.TheSendSync.{the_send as board_send}
use Rattle.c_handles.specs.contracts.board_handle.BoardHandle.{the_row, the_type}

pub send : IsSend the_row
send =
    let all : AllSend (fields the_type) = (search sendable, (search sendable, tt)) in
    owning_send the_type all (λ d. held_keyless board.the_row board_send d.is_open d.at d.board)
    (λ k. quiet (to the_type) (exits_of k (fields the_type)) ((struct_send (shape the_type) all).leaving k))
