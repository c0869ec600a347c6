-- A header and a payload, written over zeros.
use Rattle.std.proofs.Common.{◌≡◌, ℕ, ◌+◌, ◌-◌, ◌≤◌, List, ◌++◌, length, take, drop, replicate, sym, arith}
use Rattle.std.proofs.lemmas.List.{append_assoc, take_at, drop_at, drop-replicate}
use Rattle.gpa_space.specs.Page.{message_bytes}

pub filled : (header payload zeros : List ℕ) → zeros ≡ replicate 240 0 → length header ≡ 16 → length payload ≤ 240 →
    take 16 (header ++ zeros) ++ (payload ++ drop (16 + length payload - 16) (drop 16 (header ++ zeros)))
    ≡ message_bytes header payload
filled header payload zeros z a b =
    let n : 16 + length payload - 16 ≡ length payload = omega arith in
    rw (take_at header zeros 16 a, drop_at header zeros 16 a, n, z, drop-replicate {X = ℕ} (length payload) 240 0)
    (sym (append_assoc header payload (replicate (240 - length payload) 0)))
