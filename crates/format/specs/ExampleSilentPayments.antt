-- Computed examples of silent payment lookups: shares and proofs by scan key.
use Rattle.std.specs.Prelude.{ℕ, ◌+◌, ◌-◌, refl, List, [], ◌∷◌}
use Rattle.format.specs.Rows.{Row, is, Hold}
use Rattle.format.specs.Unfolds.{lookups}
use Rattle.format.specs.Counting.{counting, bytes_at, global_pair, input_pair, at, nothing, refused}
use Rattle.format.specs.Tables.{Held}
use Rattle.format.specs.Fields.{global_share, global_proof, input_share, input_proof}
use Rattle.format.specs.Told.{Told, told_looked}
use Rattle.format.specs.Answers.{Looked}

-- a lookup of type t by a scan key of n bytes, those behind the type, in a map of one pair
abbrev by : (List ℕ → List ℕ → Held → Looked) → ℕ → ℕ → Held → Told
by field t n h = told_looked (field counting (bytes_at (t + 1) n) h)

-- the pair's key is the type and 33 bytes, its value w bytes, one less, one more; another type, another scan key; its key is the type and the
-- every scan key asked, of 32, 34 and no bytes; a scan key of 32 bytes that is not there; the map's
-- number too great, and its key empty, also for a scan key of 32 bytes
abbrev tries : (ℕ → ℕ → ℕ → ℕ → ℕ → Held) → (List ℕ → List ℕ → Held → Looked) → ℕ → ℕ → List Told
tries pair field t w =
    by field t 33 (pair 0 t 34 t w) ∷ by field t 33 (pair 0 t 34 t (w - 1)) ∷ by field t 33 (pair 0 t 34 t (w + 1))
    ∷ by field t 33 (pair 0 (t + 1) 34 t w) ∷ by field (t + 1) 33 (pair 0 t 34 t w)
    ∷ by field t 32 (pair 0 t 33 t w) ∷ by field t 34 (pair 0 t 35 t w) ∷ by field t 0 (pair 0 t 1 t w) ∷ by field t 32 (pair 0 t 34 t w)
    ∷ by field t 33 (pair 1 t 34 t w) ∷ by field t 32 (pair 1 t 34 t w) ∷ by field t 33 (pair 0 t 0 t w) ∷ by field t 32 (pair 0 t 0 t w) ∷ []

-- told of it
abbrev tells : ℕ → ℕ → List Told
tells t w =
    at t w ∷ refused 7 ∷ refused 7 ∷ nothing ∷ nothing ∷ refused 7 ∷ refused 7 ∷ refused 7 ∷ refused 7
    ∷ refused 14 ∷ refused 14 ∷ refused 24 ∷ refused 24 ∷ []

-- shares have 33 bytes, proofs 64
unfoldable pub by_scan_key : List (Row (List Told))
by_scan_key =
    is (tries global_pair global_share 0x07 33) (tells 0x07 33)
    ∷ is (tries global_pair global_proof 0x08 64) (tells 0x08 64)
    ∷ is (tries input_pair input_share 0x1d 33) (tells 0x1d 33)
    ∷ is (tries input_pair input_proof 0x1e 64) (tells 0x1e 64)
    ∷ []

-- so they are told
pub shares_and_proofs : Hold by_scan_key
unfolding lookups by_scan_key
shares_and_proofs = refl
