-- E, the plain machine of demand 3: METHOD.md, "The exact machine E". It is fed the rate code and the offset of the opening and the calls' arguments, and
-- nothing of the meter.
use Rattle.std.specs.Prelude.{Bool, cond, ◌&&◌, List, [], ◌∷◌, ◌++◌, ℕ, ◌+◌, ◌-◌, ◌*◌, ◌^◌, eqb, leb, ltb, ℤ, nat_abs, ◌-ℤ◌, length}
use Rattle.rate.specs.Rates.{row_of}
use Rattle.block.specs.Block.{rate_code, count, before}
use Rattle.block.specs.Refusals.{sound}
use Rattle.exact.specs.Calls.{Call, chunk, block, brought_by}

-- the code with its K and I, the offset o, the total y, the fractions p = pn/(2^20)^y and q = qn/(2^20)^(y+1), for each threshold c in units a count u(c)
-- and a hangover v(c), and the sum of the squares of x − o over the samples x taken
pub record E : Type 0 where
  pub code : ℕ
  pub K : ℕ
  pub I : ℕ
  pub o : ℤ
  pub y : ℕ
  pub pn : ℕ
  pub qn : ℕ
  pub u : ℕ → ℕ
  pub v : ℕ → ℕ
  pub sq : ℕ

-- before any call: nothing is counted, and every hangover has run out
unfoldable pub start_at : (code K I : ℕ) (o : ℤ) → E
start_at code K I o =
    record { code = code; K = K; I = I; o = o; y = 0; pn = 0; qn = 0; u = λ c. 0; v = λ c. I; sq = 0 }

unfoldable pub start : (code : ℕ) (o : ℤ) → E
start code o = start_at code (row_of code).k (row_of code).i o

-- |x − o|, which is all that a sample x is to E
unfoldable pub distance : (o x : ℤ) → ℕ
distance o x = nat_abs (x -ℤ o)

-- q ≥ c, for q = qn/(2^20)^(y+1)
unfoldable pub reaches : (y qn c : ℕ) → Bool
reaches y qn c = leb (c * (2 ^ 20) ^ (y + 1)) qn

-- a count and a hangover after a sample: at or above the threshold the count grows and the hangover is cleared; below it both grow until the
-- hangover has run out
unfoldable pub count_next : (I : ℕ) (on : Bool) (u v : ℕ) → ℕ
count_next I on u v = cond on (u + 1) (cond (ltb v I) (u + 1) u)

unfoldable pub hangover_next : (I : ℕ) (on : Bool) (v : ℕ) → ℕ
hangover_next I on v = cond on 0 (cond (ltb v I) (v + 1) v)

-- after a sample x: p moves towards |x − o|·2^24 by K/2^20 of the way, and q as much towards the new p; numerators here, while the denominators grow
-- with y
unfoldable pub take_one : E → ℤ → E
take_one e x =
    let y = e.y + 1 in
    let d = distance e.o x in
    let pn = e.pn * (2 ^ 20 - e.K) + d * 2 ^ 24 * (2 ^ 20) ^ e.y * e.K in
    let qn = e.qn * (2 ^ 20 - e.K) + pn * e.K in
    record {
      code = e.code;
      K = e.K;
      I = e.I;
      o = e.o;
      y = y;
      pn = pn;
      qn = qn;
      u = λ c. count_next e.I (reaches y qn c) (e.u c) (e.v c);
      v = λ c. hangover_next e.I (reaches y qn c) (e.v c);
      sq = e.sq + d * d;
    }

unfoldable pub take_all : E → List ℤ → E
take_all e [] = e
take_all e (x ∷ xs) = take_all (take_one e x) xs

-- which calls E accepts
unfoldable pub accepts : E → Call → Bool
accepts e (chunk xs) = leb (length xs) 4096 && leb (e.y + length xs) (2 ^ 48)
accepts e (block b) = sound b && eqb (rate_code b) e.code && eqb (before b) e.y && leb (e.y + count b) (2 ^ 48)

-- E after a call, which it takes or leaves
unfoldable pub fed : E → Call → E
fed e call = cond (accepts e call) (take_all e (brought_by call)) e

-- E after a list of calls
unfoldable pub exactly : E → List Call → E
exactly e [] = e
exactly e (call ∷ calls) = exactly (fed e call) calls

-- which calls of a list E accepts
unfoldable pub answers_of_e : E → List Call → List Bool
answers_of_e e [] = []
answers_of_e e (call ∷ calls) = accepts e call ∷ answers_of_e (fed e call) calls

-- the samples that E took, in order
unfoldable pub took : E → List Call → List ℤ
took e [] = []
took e (call ∷ calls) = cond (accepts e call) (brought_by call) [] ++ took (fed e call) calls
