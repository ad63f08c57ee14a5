-- The entries' bytes, one entry more at a time.
-- Assumes nothing.
use mathlib.Core.Bool.{Bool, true, false}
use mathlib.Core.List.{List, ◌++◌}
use mathlib.Core.Path.{◌≡◌, refl, ◌∙◌}
use Prim.Native.Nat.{ℕ, ◌+◌, ◌*◌, ◌/◌, ◌%◌, ◌<◌}
use native.Mathlib.Omega.{arith}
use lib.ListN.{length, get_or, take, length-append}
use Rattle.octets.specs.Stores.{put}
use Rattle.octets.proofs.Storing.{put_chain, put_all, each_length, each_put}
use Rattle.frame.specs.declared.Header.{Header}
use Rattle.frame.specs.declared.Stream.{Stream}
use Rattle.frame.specs.declared.Timestamp.{Timestamp}
use Rattle.frame.specs.declared.Timestamp.TheVariants.{Absent, Time, Reserved}
use Rattle.frame.specs.Answers.{digit, sort_of, header_values, no_stream}
use Rattle.encoded.specs.AnswerBytes.{encode, head_counts, first_counts, first_values, second_counts, second_values, third_counts, third_values, stream_bytes, table_bytes}

-- a value of one byte is that byte
pub digit_alone : (b : Bool) → digit b / 1 % 256 ≡ digit b
digit_alone true = refl
digit_alone false = refl

pub sort_alone : (t : Timestamp) → sort_of t / 1 % 256 ≡ sort_of t
sort_alone Absent = refl
sort_alone (Time n) = refl
sort_alone (Reserved n) = refl

pub bytes_length : (ss : List Stream) → length (table_bytes ss) ≡ 6 * length ss
unfolding table_bytes
bytes_length ss = each_length stream_bytes 6 (λ s. refl) ss

pub table_more : (l : List ℕ) (t : List Stream) (i : ℕ) → length l ≡ 406 → length t ≡ 64 → i < 64
    → put (put l 22 (table_bytes (take i t))) (22 + 6 * i) (stream_bytes (get_or t i no_stream)) ≡ put l 22 (table_bytes (take (i + 1) t))
unfolding table_bytes
table_more l t i h k o = each_put stream_bytes 6 (λ s. refl) no_stream l 22 t i (omega arith) (omega arith)

-- the three parts and the table are the whole answer
pub parts : (h : Header) (t : List Stream) (l a b c d : List ℕ) → length l ≡ 406 → length t ≡ 64
    → a ≡ put l 0 (encode first_counts (first_values h))
    → b ≡ put a 9 (encode second_counts (second_values h))
    → c ≡ put b 18 (encode third_counts (third_values h))
    → d ≡ put c 22 (table_bytes t)
    → d ≡ encode head_counts (header_values h) ++ table_bytes t
parts h t l a b c d o k pa pb pc pd =
    let A = encode first_counts (first_values h) in
    let B = encode second_counts (second_values h) in
    let C = encode third_counts (third_values h) in
    let n = bytes_length t in
    let p = put_chain l a b 0 9 A B pa pb refl (omega arith) in
    let r = put_chain l b c 0 18 (A ++ B) C p pc refl (omega arith) in
    let q = put_chain l c d 0 22 ((A ++ B) ++ C) (table_bytes t) r pd refl (omega arith) in
    q ∙ put_all l (((A ++ B) ++ C) ++ table_bytes t) (simp length-append (omega arith))
