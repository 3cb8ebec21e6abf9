-- The worked figures: METHOD.md, "Worked figures". The customer's come first; then our own, for what those do not tell apart.
use Rattle.std.specs.Prelude.{true, false, List, [], ◌∷◌, ◌++◌, ℕ, zero, suc, ◌+◌, ◌-◌, ◌*◌, ◌^◌, ℤ, pos, negsuc, length, replicate, take}
use Rattle.thresholds.specs.Places.{list_from}
use Rattle.thresholds.specs.Lists.{held_of}
use Rattle.setting.specs.declared.Setting.{Setting}
use Rattle.setting.specs.Settings.{usual_setting, with_margin as chosenMargin, with_thresholds as chosenThresholds}
use Rattle.meter.specs.declared.Meter.{Meter}
use Rattle.meter.specs.Calls.{open_call}
use Rattle.exact.specs.Calls.{Call, chunk, block}
use Rattle.figures.specs.Blocks.{samples_of_three, sound_block, full_block, end_block, twenty, last_block, last_full, example_bytes, plain_bytes, lent, three_bytes, other_sum, high_sum, other_weighted, other_kind, other_code, super_wideband, full_band, unnamed_rate, no_count, high_count, used_next, used_last}
use Rattle.figures.specs.Meters.{placed, offset_by, margin_by, placed_by, list_by, fresh_at, given, plain, with_code, with_offset, with_margin, with_thresholds, with_list, with_n, with_s, with_sq, with_p, with_q, with_a, with_h}
use Rattle.figures.specs.Rows.{Values, Row, rate, timed, level, no_level, percent, sampled, reported, refused, opened, handed_in, answered, checked, made, played, counted, needs_two, cards, needs_d, sampled_meter}

-- x at the first k places
abbrev first : (k x : ℕ) → List ℕ
first k x = replicate k x

-- document 01's thresholds
abbrev threshold : (j : ℕ) → ℕ
threshold j = 2 ^ (j + 24)

abbrev powers : List ℕ
powers = list_from threshold 0 15

-- powers of two, k of them from 2^e on
abbrev from : (e k : ℕ) → List ℕ
from e k = list_from (λ j. 2 ^ (e + j)) 0 k

-- the shortest list, and the fine one, of 24: below 16 intervals another stands halfway between each two powers of two
abbrev shortest : List ℕ
shortest = from 24 14

abbrev fine : List ℕ
fine =
    2 ^ 22
    ∷ 3 * 2 ^ 21
    ∷ 2 ^ 23
    ∷ 3 * 2 ^ 22
    ∷ 2 ^ 24
    ∷ 3 * 2 ^ 23
    ∷ 2 ^ 25
    ∷ 3 * 2 ^ 24
    ∷ 2 ^ 26
    ∷ 3 * 2 ^ 25
    ∷ 2 ^ 27
    ∷ 3 * 2 ^ 26
    ∷ from 28 12

-- a list whose second entry is its first once more; one whose last is one more than twice the one before; and one of words whose doubles are none
abbrev twice : List ℕ
twice = 2 ^ 24 ∷ shortest

abbrev wide : List ℕ
wide = from 24 13 ++ ((2 ^ 37 + 1) ∷ [])

abbrev wrapping : List ℕ
wrapping = 2 ^ 62 ∷ list_from (λ j. 2 ^ 63 + j) 0 13

-- 240 samples of quiet speech at code 1: a louder part, a pause and a softer part
unfoldable pub softly : List ℤ
softly = sixes 20 ++ replicate 60 (pos 0) ++ pairs_of 30
  where
    sixes : ℕ → List ℤ
    sixes zero = []
    sixes (suc k) = pos 3 ∷ negsuc 3 ∷ pos 5 ∷ negsuc 2 ∷ pos 4 ∷ negsuc 5 ∷ sixes k

    pairs_of : ℕ → List ℤ
    pairs_of zero = []
    pairs_of (suc k) = pos 2 ∷ negsuc 2 ∷ pairs_of k

-- −x, for x above 0
abbrev minus : ℕ → ℤ
minus x = negsuc (x - 1)

-- the meters of two of the customer's rows: of his second report, and of the one that is refused with 15
abbrev second : Meter
second = given 16384 (2 ^ 30) (replicate 7 4096 ++ (2048 ∷ replicate 7 0))

abbrev quiet : Meter
quiet = given 32768 (2 ^ 20) (first 1 32768)

-- a fresh meter without an offset, at a code, a margin and thresholds c, with the hangover I
abbrev fresh_values : (code : ℕ) (M : ℤ) (c : List ℕ) (I : ℕ) → Values
fresh_values code M c I = record { code = code; offset = pos 0; margin = M; count = length c; c = c; n = 0; s = pos 0; high = 0; low = 0; P = 0; Q = 0; a = []; h = replicate (length c) I }

-- the meter of all zeros but a margin, and of all zeros
abbrev zeros_but : (M : ℤ) → Values
zeros_but M = fresh_values 0 M [] 0

abbrev zeros : Values
zeros = zeros_but (pos 0)

-- 260 samples at code 1: loud ones, a refused block of three bytes, a sound one of twenty samples, and near silence in which hangovers run out
unfoldable pub run : List Call
run =
    chunk (replicate 30 (pos 9000) ++ replicate 10 (minus 20000))
    ∷ block three_bytes
    ∷ block twenty
    ∷ chunk (replicate 170 (pos 0) ++ replicate 30 (pos 300))
    ∷ []

-- what it leaves without an offset, at a margin and thresholds c, with counts a and hangovers h
abbrev ran : (M : ℤ) (c a h : List ℕ) → Values
ran M c a h =
    record {
      code = 1;
      offset = pos 0;
      margin = M;
      count = length c;
      c = c;
      n = 260;
      s = minus 576360;
      high = 0;
      low = 27907536480;
      P = 3869760806;
      Q = 2445109210;
      a = a;
      h = h;
    }

-- the counts and hangovers at 2^24 to 2^37, and all of it with the built-in list
abbrev ran_counts : List ℕ
ran_counts = 260 ∷ 260 ∷ 260 ∷ 260 ∷ 260 ∷ 259 ∷ 258 ∷ 257 ∷ 256 ∷ 253 ∷ 249 ∷ 242 ∷ 229 ∷ 197 ∷ []

abbrev ran_hangovers : List ℕ
ran_hangovers = 0 ∷ 0 ∷ 0 ∷ 0 ∷ 0 ∷ 0 ∷ 0 ∷ 0 ∷ 65 ∷ 82 ∷ 99 ∷ 117 ∷ 136 ∷ 139 ∷ []

abbrev ran_as_usual : (M : ℤ) → Values
ran_as_usual M = ran M powers (ran_counts ++ (146 ∷ [])) (ran_hangovers ++ (139 ∷ []))

-- as many samples as `run` has, in two chunks: at the offset 300 each is 3 apart in size from the one there, and but for the twenty and the last thirty it
-- lies on the other side
unfoldable pub mirrored : List Call
mirrored =
    chunk (replicate 30 (minus 8403) ++ replicate 10 (pos 20597) ++ replicate 20 (minus 32765))
    ∷ chunk (replicate 170 (pos 603) ++ replicate 30 (pos 297))
    ∷ []

-- the setting of that card with the least margin, and with the fine list as well
abbrev other_card : Setting
other_card = chosenMargin (pos 1) (offset_by 1 (pos 300))

abbrev fine_card : Setting
fine_card = chosenThresholds (held_of fine) other_card

-- three samples after which Q is one unit under c_6, and q is not
abbrev just_under : List Call
just_under = chunk (pos 314 ∷ pos 956 ∷ pos 26423 ∷ []) ∷ []

-- a constant for so many samples
abbrev constant : (x : ℤ) (k : ℕ) → List Call
constant x k = chunk (replicate k x) ∷ []

-- calls to a fresh meter of code 1: the faults from 3 to 10, then a sound block, the same once more, and the longest chunk
unfoldable pub faults : List Call
faults =
    chunk (replicate 4097 (pos 0))
    ∷ block three_bytes
    ∷ block other_sum
    ∷ block high_sum
    ∷ block other_weighted
    ∷ block other_kind
    ∷ block other_code
    ∷ block no_count
    ∷ block high_count
    ∷ block used_next
    ∷ block used_last
    ∷ block end_block
    ∷ block sound_block
    ∷ block sound_block
    ∷ chunk (replicate 4096 (pos 0))
    ∷ []

-- Rates, levels, percentages, samples, reports, runs of calls and E
unfoldable pub measuring : List Row
measuring =
    rate 1 694 49174 139 43
    ∷ rate 2 8000 4360 1600 481
    ∷ rate 3 16000 2182 3200 962
    ∷ rate 4 32000 1092 6400 1921
    ∷ rate 5 48000 728 9600 2881
    ∷ level 1 0
    ∷ level 2 4096
    ∷ level 3 6492
    ∷ level 5 9510
    ∷ level 7 11498
    ∷ level 10 13606
    ∷ level (2 ^ 32 - 1) 131071
    ∷ level (2 ^ 78) 319488
    ∷ sampled (usual_setting 2) (pos 32767 ∷ []) 2285825920 9504509 [] 14
    ∷ sampled (usual_setting 2) (minus 1 ∷ []) 69760 290 [] 14
    -- at an offset: the largest size that a sample can have, and a sample that is the offset
    ∷ played (offset_by 2 (pos 32767)) (chunk (minus 32768 ∷ []) ∷ []) (record {
      code = 2;
      offset = pos 32767;
      margin = pos 21635;
      count = 15;
      c = powers;
      n = 1;
      s = minus 32768;
      high = 0;
      low = 4294836225;
      P = 4571721600;
      Q = 19009309;
      a = first 1 1;
      h = 0 ∷ replicate 14 1600;
    })
    ∷ played (offset_by 2 (minus 1)) (chunk (minus 1 ∷ []) ∷ []) (record {
      code = 2;
      offset = minus 1;
      margin = pos 21635;
      count = 15;
      c = powers;
      n = 1;
      s = minus 1;
      high = 0;
      low = 0;
      P = 0;
      Q = 0;
      a = [];
      h = replicate 15 1600;
    })
    -- percentages, and reports
    ∷ percent (minus 8192) 2500
    ∷ percent (pos 0) 10000
    ∷ percent (minus 1) 9999
    ∷ percent (minus 4096) 5000
    ∷ percent (minus 54426) 1
    ∷ percent (minus 54427) 0
    ∷ reported (given 16384 (2 ^ 30) (first 8 4096)) (record { L = pos 65536; A = pos 73728; C = pos 52093; F = minus 8192; lower = 6; upper = 7; T = 2500; M = pos 21635; mark = false })
    ∷ reported (given 16384 (2 ^ 30) (replicate 7 4096 ++ (2048 ∷ replicate 7 0))) (record { L = pos 65536; A = pos 76669; C = pos 55034; F = minus 11133; lower = 6; upper = 7; T = 1519; M = pos 21635; mark = false })
    ∷ reported (given 32768 1275068 (first 1 32768)) (record { L = pos 21635; A = pos 21635; C = pos 0; F = pos 0; lower = 0; upper = 0; T = 10000; M = pos 21635; mark = false })
    ∷ refused (given 32768 (2 ^ 20) (first 1 32768)) 15
    -- those of the customer's rows that he has run, not proved
    ∷ answered (with_n (2 ^ 48) plain) (chunk (pos 1 ∷ []) ∷ chunk [] ∷ []) (11 ∷ 0 ∷ [])
    ∷ answered (fresh_at 2) (chunk (replicate 4097 (pos 0)) ∷ chunk (replicate 4096 (pos 0)) ∷ []) (3 ∷ 0 ∷ [])
    -- lev keeps 31 places of what it squares, where 30 would do for those above
    ∷ level 4407622486 131225
    -- the ends of lev's range, and past them
    ∷ level (2 ^ 80) 327680
    ∷ no_level 0
    ∷ no_level (2 ^ 80 + 1)
    -- the percentages at the ends of 64 bits
    ∷ percent (pos (2 ^ 63 - 1)) 10000
    ∷ percent (minus (2 ^ 63)) 0
    -- the other rates: a sample at each, and E's counts at the last two
    ∷ sampled (usual_setting 3) (pos 32767 ∷ []) 1143961504 2380489 [] 14
    ∷ sampled (usual_setting 4) (pos 32767 ∷ []) 572505024 596213 [] 14
    ∷ sampled (usual_setting 5) (pos 32767 ∷ []) 381670016 264983 [] 14
    ∷ counted (usual_setting 4) (constant (pos 32767) 40) (threshold 3) 20
    ∷ counted (usual_setting 5) (constant (pos 32767) 40) (threshold 3) 9
    -- the smoothing time at each rate; then with the least K and the largest that pass the test, which is stricter than 5 % at 694
    ∷ timed 694 49174
    ∷ timed 8000 4360
    ∷ timed 16000 2182
    ∷ timed 32000 1092
    ∷ timed 48000 728
    ∷ timed 694 48762
    ∷ timed 694 51139
    ∷ timed 48000 694
    ∷ timed 48000 766
    -- and the largest size the other way
    ∷ played (offset_by 3 (minus 32768)) (chunk (pos 32767 ∷ []) ∷ []) (record {
      code = 3;
      offset = minus 32768;
      margin = pos 21635;
      count = 15;
      c = powers;
      n = 1;
      s = pos 32767;
      high = 0;
      low = 4294836225;
      P = 2287957920;
      Q = 4761051;
      a = [];
      h = replicate 15 3200;
    })
    -- a crossing at the last threshold
    ∷ reported (given 16384 (2 ^ 44) (first 15 4096)) (record { L = pos 122880; A = pos 131072; C = pos 109437; F = minus 8192; lower = 13; upper = 14; T = 2500; M = pos 21635; mark = false })
    -- the largest sq that a report can meet
    ∷ reported (given (2 ^ 48) (2 ^ 80) (first 15 (2 ^ 48))) (record { L = pos 131072; A = pos 131072; C = pos 109437; F = pos 0; lower = 13; upper = 14; T = 10000; M = pos 21635; mark = false })
    -- a report carries its meter's n and s, both words of sq, and every count
    ∷ reported (with_s (minus 123456789) (given (2 ^ 33) (2 ^ 64 + 5) (list_from (λ j. 2 ^ 33 - j) 0 13 ++ ((2 ^ 32 + 1) ∷ (2 ^ 31 + 1) ∷ [])))) (record { L = pos 126976; A = pos 134013; C = pos 112378; F = minus 7037; lower = 13; upper = 14; T = 3039; M = pos 21635; mark = false })
    -- the other refusals of a report
    ∷ refused (given 1 (2 ^ 32 + 1) []) 2
    ∷ refused (given 0 0 []) 12
    ∷ refused (given 1 0 []) 13
    ∷ refused (given (2 ^ 40) (2 ^ 64) []) 14
    ∷ refused (with_s (minus 9) (given 16384 (2 ^ 40) (first 8 4096))) 16
    -- Q reaches 2^30 exactly: ≥ against >
    ∷ sampled (usual_setting 1) (pos 9126 ∷ pos 11705 ∷ []) 16052775414 (2 ^ 30) (replicate 5 2 ++ (1 ∷ 1 ∷ replicate 8 0)) 16
    -- two crossings: the highest is used
    ∷ reported (given (2 ^ 30) (2 ^ 40) (replicate 4 (2 ^ 30) ++ replicate 11 (2 ^ 14))) (record { L = pos 40960; A = pos 106496; C = pos 84861; F = minus 65536; lower = 10; upper = 11; T = 0; M = pos 21635; mark = false })
    -- three crossings, each interpolated; and four, the highest where a single sample counted
    ∷ reported (given (2 ^ 20) (2 ^ 26) (2 ^ 20 ∷ 2 ^ 19 ∷ 2 ^ 16 ∷ 2 ^ 15 ∷ 2 ^ 12 ∷ replicate 10 (2 ^ 11))) (record { L = pos 24576; A = pos 60285; C = pos 38650; F = minus 35709; lower = 4; upper = 5; T = 23; M = pos 21635; mark = false })
    ∷ reported (given 8192 (2 ^ 23) (replicate 4 8192 ++ (512 ∷ 512 ∷ 32 ∷ 32 ∷ replicate 7 1))) (record { L = pos 40960; A = pos 94208; C = pos 72573; F = minus 53248; lower = 8; upper = 9; T = 1; M = pos 21635; mark = false })
    -- d is 0 at the higher of two crossings; and at the lower
    ∷ reported (given (2 ^ 30) (1275068 * 2 ^ 20) (replicate 4 (2 ^ 30) ++ replicate 11 (2 ^ 19))) (record { L = pos 42115; A = pos 87171; C = pos 65536; F = minus 45056; lower = 8; upper = 8; T = 4; M = pos 21635; mark = false })
    ∷ reported (given (2 ^ 31) (1275068 * 2 ^ 20) (replicate 4 (2 ^ 31) ++ replicate 11 (2 ^ 20))) (record { L = pos 38019; A = pos 83075; C = pos 61440; F = minus 45056; lower = 7; upper = 8; T = 4; M = pos 21635; mark = false })
    -- above the crossing d turns upwards, and stays above 0; below it, d_0 being below 0; and with no crossing
    ∷ reported (given (2 ^ 30) (2 ^ 40) (replicate 4 (2 ^ 30) ++ replicate 11 64)) (record { L = pos 40960; A = pos 40960; C = pos 19325; F = pos 0; lower = 2; upper = 3; T = 10000; M = pos 21635; mark = false })
    ∷ reported (given (2 ^ 30) (2 ^ 34) (2 ^ 30 ∷ replicate 14 (2 ^ 26))) (record { L = pos 16384; A = pos 32768; C = pos 11133; F = minus 16384; lower = 1; upper = 2; T = 625; M = pos 21635; mark = false })
    ∷ refused (given 65536 (2 ^ 21) (65536 ∷ 32 ∷ replicate 13 0)) 15
    -- the customer's second report at other margins: the mark's two sides, the largest, and those past both ends of the range
    ∷ reported (with_margin (pos 20954) second) (record { L = pos 65536; A = pos 77350; C = pos 56396; F = minus 11814; lower = 6; upper = 7; T = 1354; M = pos 20954; mark = true })
    ∷ reported (with_margin (pos 20955) second) (record { L = pos 65536; A = pos 77349; C = pos 56394; F = minus 11813; lower = 6; upper = 7; T = 1354; M = pos 20955; mark = false })
    ∷ reported (with_margin (pos 22314) second) (record { L = pos 65536; A = pos 75990; C = pos 53676; F = minus 10454; lower = 6; upper = 7; T = 1705; M = pos 22314; mark = false })
    ∷ refused (with_margin (pos 22315) second) 2
    ∷ refused (with_margin (pos 0) second) 2
    -- the smallest margin: a high threshold is picked; and the smallest active level that there can be with the built-in list
    ∷ reported (with_margin (pos 1) (given 16384 (2 ^ 30) (replicate 8 4096 ++ (2900 ∷ 2400 ∷ 1500 ∷ replicate 4 0)))) (record { L = pos 65536; A = pos 78507; C = pos 78506; F = minus 12971; lower = 9; upper = 10; T = 1113; M = pos 1; mark = true })
    ∷ reported (with_margin (pos 1) (given 4096 4097 (first 1 4096))) (record { L = pos 1; A = pos 1; C = pos 0; F = pos 0; lower = 0; upper = 0; T = 10000; M = pos 1; mark = true })
    -- the margin and the list are tested before n
    ∷ refused (with_margin (pos 0) (given 0 0 [])) 2
    ∷ refused (with_list [] (given 0 0 [])) 2
    -- the customer's 15 at a smaller margin: a level at one margin alone, 15 at the next larger and 16 at the next smaller
    ∷ refused (with_margin (pos 20481) quiet) 15
    ∷ reported (with_margin (pos 20480) quiet) (record { L = pos 20480; A = pos 20480; C = pos 0; F = pos 0; lower = 0; upper = 0; T = 10000; M = pos 20480; mark = true })
    ∷ refused (with_margin (pos 20479) quiet) 16
    -- two crossings with d at 0, of which the higher is used
    ∷ reported (with_margin (pos 16384) (given (2 ^ 30) (2 ^ 40) (replicate 4 (2 ^ 30) ++ replicate 11 (2 ^ 14)))) (record { L = pos 40960; A = pos 106496; C = pos 90112; F = minus 65536; lower = 11; upper = 11; T = 0; M = pos 16384; mark = true })
    -- the interpolation rounds down, at two margins
    ∷ reported (with_margin (pos 20955) (given 16384 (2 ^ 30) (replicate 7 4096 ++ (3000 ∷ replicate 7 0)))) (record { L = pos 65536; A = pos 74777; C = pos 53822; F = minus 9241; lower = 6; upper = 7; T = 2093; M = pos 20955; mark = false })
    ∷ reported (given 16384 (2 ^ 30) (replicate 7 4096 ++ (3000 ∷ replicate 7 0))) (record { L = pos 65536; A = pos 74580; C = pos 52945; F = minus 9044; lower = 6; upper = 7; T = 2164; M = pos 21635; mark = false })
    -- levels below 0, which thresholds under one interval allow: −1, −2, the least that there can be, and one between two thresholds
    ∷ reported (with_margin (pos 16383) (with_list fine (given 4097 4096 (first 1 4097)))) (record { L = minus 1; A = minus 1; C = minus 16384; F = pos 0; lower = 0; upper = 0; T = 10000; M = pos 16383; mark = true })
    ∷ reported (with_margin (pos 16382) (with_list fine (given 4098 4096 (first 1 4098)))) (record { L = minus 2; A = minus 2; C = minus 16384; F = pos 0; lower = 0; upper = 0; T = 10000; M = pos 16382; mark = true })
    ∷ reported (with_margin (pos 1) (with_list fine (given 65536 4097 (first 1 65536)))) (record { L = minus 16383; A = minus 16383; C = minus 16384; F = pos 0; lower = 0; upper = 0; T = 10000; M = pos 1; mark = true })
    ∷ reported (with_margin (pos 1) (with_list fine (given 65536 4096 (50000 ∷ 40000 ∷ [])))) (record { L = minus 16384; A = minus 14179; C = minus 14180; F = minus 2205; lower = 0; upper = 1; T = 6886; M = pos 1; mark = true })
    -- document 01's second report, with the shortest list, and with the fine one, in which its crossing is at the sixteenth place
    ∷ reported (with_list shortest (given 16384 (2 ^ 30) (first 7 4096 ++ (2048 ∷ [])))) (record { L = pos 65536; A = pos 76669; C = pos 55034; F = minus 11133; lower = 6; upper = 7; T = 1519; M = pos 21635; mark = false })
    ∷ reported (with_list fine (given 16384 (2 ^ 30) (first 15 4096 ++ (2048 ∷ [])))) (record { L = pos 65536; A = pos 76669; C = pos 55034; F = minus 11133; lower = 14; upper = 15; T = 1519; M = pos 21635; mark = false })
    -- quiet speech, which has no level with the built-in list, and one with the fine list; and its level with both at another margin
    ∷ refused (sampled_meter (usual_setting 1) softly) 15
    ∷ reported (sampled_meter (list_by 1 fine) softly) (record { L = pos 14102; A = pos 14420; C = minus 7215; F = minus 318; lower = 2; upper = 3; T = 9476; M = pos 21635; mark = false })
    ∷ reported (sampled_meter (margin_by 1 (pos 5000)) softly) (record { L = pos 14102; A = pos 15751; C = pos 10751; F = minus 1649; lower = 1; upper = 2; T = 7565; M = pos 5000; mark = true })
    ∷ reported (with_margin (pos 5000) (sampled_meter (list_by 1 fine) softly)) (record { L = pos 14102; A = pos 15216; C = pos 10216; F = minus 1114; lower = 6; upper = 7; T = 8282; M = pos 5000; mark = true })
    -- the meter and E over a run of calls
    ∷ played (usual_setting 1) run (ran_as_usual (pos 21635))
    ∷ counted (usual_setting 1) run (threshold 6) 258
    ∷ counted (usual_setting 1) run (threshold 12) 229
    ∷ counted (usual_setting 1) run (threshold 13) 197
    ∷ counted (usual_setting 1) run (threshold 13 + 43) 197
    ∷ counted (usual_setting 1) run (threshold 14) 146
    -- and at another margin, which changes nothing but itself
    ∷ played (margin_by 1 (pos 1)) run (ran_as_usual (pos 1))
    ∷ counted (margin_by 1 (pos 1)) run (threshold 13) 197
    -- and with the shortest list, and with the fine one
    ∷ played (list_by 1 shortest) run (ran (pos 21635) shortest ran_counts ran_hangovers)
    ∷ played (list_by 1 fine) run (ran (pos 21635) fine (replicate 13 260 ++ (259 ∷ 258 ∷ 257 ∷ 256 ∷ 253 ∷ 249 ∷ 242 ∷ 229 ∷ 197 ∷ 146 ∷ 0 ∷ []))
    (replicate 16 0 ++ (65 ∷ 82 ∷ 99 ∷ 117 ∷ 136 ∷ 139 ∷ 139 ∷ 139 ∷ [])))
    -- and at an offset, over the same calls
    ∷ played (offset_by 1 (pos 300)) run (record {
      code = 1;
      offset = pos 300;
      margin = pos 21635;
      count = 15;
      c = powers;
      n = 260;
      s = minus 576360;
      high = 0;
      low = 28276752480;
      P = 1219213919;
      Q = 3145318970;
      a = 260 ∷ 260 ∷ 260 ∷ 260 ∷ 260 ∷ 259 ∷ 258 ∷ 257 ∷ 255 ∷ 253 ∷ 249 ∷ 242 ∷ 229 ∷ 198 ∷ 147 ∷ [];
      h = 0 ∷ 0 ∷ 0 ∷ 0 ∷ 0 ∷ 0 ∷ 0 ∷ 0 ∷ 12 ∷ 60 ∷ 91 ∷ 113 ∷ 134 ∷ 139 ∷ 139 ∷ [];
    })
    ∷ counted (offset_by 1 (pos 300)) run (threshold 8) 255
    ∷ counted (offset_by 1 (pos 300)) run (threshold 13) 198
    ∷ counted (offset_by 1 (pos 300)) run (threshold 14 + 43) 147
    -- the two steps of demand 3's level clause
    ∷ needs_two (usual_setting 1) (chunk (replicate 44 (pos 5215) ++ (pos 5243 ∷ pos 5256 ∷ pos 5205 ∷ pos 5187 ∷ [])) ∷ []) 103555
    -- D less one is too small
    ∷ needs_d (usual_setting 1) (replicate 500 (pos 1) ++ (pos 31417 ∷ [])) 1175933558
    -- two cards on one line, cut differently, of which the first has a refused call, and the second another margin
    ∷ cards 3 (offset_by 1 (pos 300)) other_card run mirrored 12 (4099 * 2 ^ 24 + 43) 228 229
    -- and where the second has other thresholds than the first, of which 2^36 has another place
    ∷ cards 3 (offset_by 1 (pos 300)) fine_card run mirrored 20 (4099 * 2 ^ 24 + 43) 228 229
    -- 400 apart at code 2, where the first has the largest size there is
    ∷ cards 400 (offset_by 2 (minus 32768)) (offset_by 2 (minus 32768)) (constant (pos 32767) 40) (constant (pos 32367) 40) 8 (656 * 2 ^ 24 + 481) 5 19
    -- and 1 apart at code 5
    ∷ cards 1 (usual_setting 5) (usual_setting 5) (constant (pos 32767) 40) (constant (pos 32766) 40) 3 (9 * 2 ^ 24 + 2881) 7 9
    -- d − 1 intervals would not do: at c_0 raised by D alone E counts 6 for the first, and the second meter counts 0
    ∷ cards 1 (usual_setting 1) (usual_setting 1) (constant (pos 2) 40) (constant (pos 1) 40) 0 (2 ^ 25 + 43) 0 0
    ∷ counted (usual_setting 1) (constant (pos 2) 40) (2 ^ 24 + 43) 6
    -- nor would it without D, of equal samples
    ∷ cards 0 (usual_setting 1) (usual_setting 1) just_under just_under 6 (2 ^ 30 + 43) 0 0
    ∷ counted (usual_setting 1) just_under (2 ^ 30) 1
    -- nor, between the meters alone, where 2^j is d − 1: the first counts 3 at c_1, and the second 0 at c_0
    ∷ cards 2 (usual_setting 1) (usual_setting 1) (constant (pos 3) 50) (constant (pos 1) 50) 0 (3 * 2 ^ 24 + 43) 0 0
    ∷ sampled (usual_setting 1) (replicate 50 (pos 3)) 45772777 35083161 (26 ∷ 3 ∷ replicate 13 0) 15
    ∷ []

-- Opening, refusal 2, the refusals of calls, the line host's check, and blocks made
unfoldable pub refusing : List Row
refusing =
    opened (usual_setting 0) 1
    ∷ opened (usual_setting 1) 0
    ∷ opened (usual_setting 2) 0
    ∷ opened (usual_setting 3) 0
    ∷ opened (usual_setting 4) 0
    ∷ opened (usual_setting 5) 0
    ∷ opened (usual_setting 6) 1
    ∷ opened (usual_setting 257) 1
    ∷ opened (offset_by 1 (minus 32768)) 0
    -- the margin: each end of its range and the next number, −1, both ends of 64 bits, and 1 before 17
    ∷ opened (margin_by 1 (pos 1)) 0
    ∷ opened (margin_by 1 (pos 22314)) 0
    ∷ opened (margin_by 1 (pos 0)) 17
    ∷ opened (margin_by 1 (pos 22315)) 17
    ∷ opened (margin_by 1 (minus 1)) 17
    ∷ opened (margin_by 1 (minus (2 ^ 63))) 17
    ∷ opened (margin_by 1 (pos (2 ^ 63 - 1))) 17
    ∷ opened (margin_by 6 (pos 0)) 1
    ∷ opened (margin_by 6 (pos 22315)) 1
    -- the list: its shortest and a longest, and 19 at a length of 0, 13, 25 and any larger, whatever the entries are, and where something stands past the end
    ∷ opened (list_by 1 shortest) 0
    ∷ opened (list_by 1 fine) 0
    ∷ opened (list_by 1 []) 19
    ∷ opened (list_by 1 (from 25 13)) 19
    ∷ opened (list_by 1 (fine ++ ((2 ^ 39 + 1) ∷ []))) 19
    ∷ opened (placed_by 1 (placed 65534 powers)) 19
    ∷ opened (placed_by 1 (placed (2 ^ 64 - 1) powers)) 19
    ∷ opened (placed_by 1 (placed 13 twice)) 19
    ∷ opened (placed_by 1 (placed 14 powers)) 19
    ∷ opened (placed_by 1 (placed 15 (powers ++ replicate 8 0 ++ (1 ∷ [])))) 19
    -- 20: an entry once more, at the first pair and at the last; a lower one; one more than twice the one before, the last entry and the second; zeros within
    -- the list
    ∷ opened (list_by 1 twice) 20
    ∷ opened (list_by 1 (shortest ++ (2 ^ 37 ∷ []))) 20
    ∷ opened (list_by 1 (from 24 8 ++ from 30 8)) 20
    ∷ opened (list_by 1 wide) 20
    ∷ opened (list_by 1 (2 ^ 24 ∷ (2 ^ 25 + 1) ∷ from 26 12)) 20
    ∷ opened (list_by 1 (powers ++ replicate 9 0)) 20
    ∷ opened (list_by 1 (replicate 14 0)) 20
    -- 21: each end of the range of the first and of the last, and the next number past it; doubling does not wrap
    ∷ opened (list_by 1 (from 22 16)) 0
    ∷ opened (list_by 1 (from 24 16)) 0
    ∷ opened (list_by 1 ((2 ^ 22 - 1) ∷ from 22 16)) 21
    ∷ opened (list_by 1 ((2 ^ 24 + 1) ∷ from 25 13)) 21
    ∷ opened (list_by 1 (from 24 13 ++ ((2 ^ 37 - 1) ∷ []))) 21
    ∷ opened (list_by 1 (from 24 16 ++ ((2 ^ 39 + 1) ∷ []))) 21
    ∷ opened (list_by 1 wrapping) 21
    -- the order: 1 before 17 before 19 before 20 before 21
    ∷ opened (chosenMargin (pos 0) (list_by 6 [])) 1
    ∷ opened (chosenMargin (pos 0) (list_by 1 [])) 17
    ∷ opened (list_by 1 (2 ^ 62 ∷ 2 ^ 62 ∷ from 24 11)) 19
    ∷ opened (list_by 1 (2 ^ 62 ∷ 2 ^ 62 ∷ from 24 12)) 20
    -- a refused opening keeps no list
    ∷ played (list_by 1 wide) [] zeros
    -- an opening keeps its list, and its margin
    ∷ played (list_by 3 shortest) [] (fresh_values 3 (pos 21635) shortest 3200)
    ∷ played (margin_by 3 (pos 1)) [] (fresh_values 3 (pos 1) powers 3200)
    ∷ played (margin_by 4 (pos 1)) [] (fresh_values 4 (pos 1) powers 6400)
    ∷ played (list_by 5 fine) [] (fresh_values 5 (pos 21635) fine 9600)
    -- a refused one keeps nothing, neither the offset nor the margin
    ∷ played (margin_by 1 (pos 22315)) [] zeros
    ∷ played (offset_by 6 (pos 5)) [] zeros
    -- refusal 2: the code, and the meter beside a refused opening
    ∷ handed_in plain 0
    ∷ handed_in (with_code 0 plain) 2
    ∷ handed_in (with_code 6 plain) 2
    ∷ handed_in (with_code 257 plain) 2
    ∷ handed_in (open_call (usual_setting 6)).meter 2
    -- the margin
    ∷ handed_in (with_margin (pos 1) plain) 0
    ∷ handed_in (with_margin (pos 22314) plain) 0
    ∷ handed_in (with_margin (pos 0) plain) 2
    ∷ handed_in (with_margin (pos 22315) plain) 2
    ∷ handed_in (with_margin (minus 1) plain) 2
    ∷ handed_in (with_margin (minus (2 ^ 63)) plain) 2
    ∷ handed_in (with_margin (pos (2 ^ 63 - 1)) plain) 2
    -- a list that would not load, for each rule
    ∷ handed_in (with_list shortest plain) 0
    ∷ handed_in (with_list fine plain) 0
    ∷ handed_in (with_list [] plain) 2
    ∷ handed_in (with_list (from 25 13) plain) 2
    ∷ handed_in (with_thresholds (placed 25 fine) plain) 2
    ∷ handed_in (with_thresholds (placed (2 ^ 64 - 1) powers) plain) 2
    ∷ handed_in (with_thresholds (placed 14 powers) plain) 2
    ∷ handed_in (with_thresholds (placed 15 (powers ++ replicate 8 0 ++ (1 ∷ []))) plain) 2
    ∷ handed_in (with_list twice plain) 2
    ∷ handed_in (with_list (shortest ++ (2 ^ 37 ∷ [])) plain) 2
    ∷ handed_in (with_list wide plain) 2
    ∷ handed_in (with_list ((2 ^ 22 - 1) ∷ from 22 16) plain) 2
    ∷ handed_in (with_list ((2 ^ 24 + 1) ∷ from 25 13) plain) 2
    ∷ handed_in (with_list (from 24 13 ++ ((2 ^ 37 - 1) ∷ [])) plain) 2
    ∷ handed_in (with_list (from 24 16 ++ ((2 ^ 39 + 1) ∷ [])) plain) 2
    ∷ handed_in (with_list wrapping plain) 2
    -- n > 2^48
    ∷ handed_in (with_n (2 ^ 48) plain) 0
    ∷ handed_in (with_n (2 ^ 48 + 1) plain) 2
    -- |s| > n·2^15
    ∷ handed_in (with_s (pos (1000 * 2 ^ 15)) plain) 0
    ∷ handed_in (with_s (pos (1000 * 2 ^ 15 + 1)) plain) 2
    ∷ handed_in (with_s (minus (1000 * 2 ^ 15)) plain) 0
    ∷ handed_in (with_s (minus (1000 * 2 ^ 15 + 1)) plain) 2
    ∷ handed_in (with_s (minus (2 ^ 63)) (with_n (2 ^ 48) plain)) 0
    ∷ handed_in (with_s (minus (2 ^ 63)) (with_n (2 ^ 48 - 1) plain)) 2
    -- sq > n·2^32
    ∷ handed_in (with_sq 0 (1000 * 2 ^ 32) plain) 0
    ∷ handed_in (with_sq 0 (1000 * 2 ^ 32 + 1) plain) 2
    ∷ handed_in (with_sq 0 (2 ^ 64 - 1) (with_n (2 ^ 32) plain)) 0
    ∷ handed_in (with_sq 1 0 (with_n (2 ^ 32) plain)) 0
    ∷ handed_in (with_sq 1 1 (with_n (2 ^ 32) plain)) 2
    ∷ handed_in (with_sq 1 0 (with_n (2 ^ 32 - 1) plain)) 2
    ∷ handed_in (with_sq (2 ^ 16) 0 (with_n (2 ^ 48) plain)) 0
    ∷ handed_in (with_sq (2 ^ 16) 1 (with_n (2 ^ 48) plain)) 2
    -- P or Q > 2^40
    ∷ handed_in (with_p (2 ^ 40) plain) 0
    ∷ handed_in (with_p (2 ^ 40 + 1) plain) 2
    ∷ handed_in (with_q (2 ^ 40) plain) 0
    ∷ handed_in (with_q (2 ^ 40 + 1) plain) 2
    -- of the offset nothing is said, and no bound depends on it
    ∷ handed_in (with_offset (pos 32767) (with_sq 0 (1000 * 2 ^ 32) plain)) 0
    ∷ handed_in (with_offset (minus 32768) (with_p (2 ^ 40) plain)) 0
    ∷ handed_in (with_offset (minus 32768) (with_sq 0 (1000 * 2 ^ 32 + 1) plain)) 2
    -- an h_j > I: from the middle on, the last alone, and at the other rates
    ∷ handed_in (with_h (replicate 7 0 ++ replicate 8 1600) plain) 0
    ∷ handed_in (with_h (replicate 7 0 ++ replicate 8 1601) plain) 2
    ∷ handed_in (with_h (replicate 14 1600 ++ (1601 ∷ [])) plain) 2
    ∷ handed_in (with_h (replicate 15 139) (with_code 1 plain)) 0
    ∷ handed_in (with_h (replicate 14 139 ++ (140 ∷ [])) (with_code 1 plain)) 2
    ∷ handed_in (with_h (replicate 15 3200) (with_code 3 plain)) 0
    ∷ handed_in (with_h (replicate 14 3200 ++ (3201 ∷ [])) (with_code 3 plain)) 2
    ∷ handed_in (with_h (replicate 15 6400) (with_code 4 plain)) 0
    ∷ handed_in (with_h (replicate 14 6400 ++ (6401 ∷ [])) (with_code 4 plain)) 2
    ∷ handed_in (with_h (replicate 15 9600) (with_code 5 plain)) 0
    ∷ handed_in (with_h (replicate 14 9600 ++ (9601 ∷ [])) (with_code 5 plain)) 2
    -- an a_j > n: the first alone, and up to the middle
    ∷ handed_in (with_a (first 15 1000) plain) 0
    ∷ handed_in (with_a (first 1 1001) plain) 2
    ∷ handed_in (with_a (first 8 1001) plain) 2
    -- a_j rising with j: at the first pair, in the middle, and at the last
    ∷ handed_in (with_a (5 ∷ replicate 14 6) plain) 2
    ∷ handed_in (with_a (replicate 7 5 ++ replicate 8 6) plain) 2
    ∷ handed_in (with_a (replicate 14 5 ++ (6 ∷ [])) plain) 2
    -- h_j falling with j: at the first pair, in the middle, and at the last
    ∷ handed_in (with_h (6 ∷ replicate 14 5) plain) 2
    ∷ handed_in (with_h (replicate 7 6 ++ replicate 8 5) plain) 2
    ∷ handed_in (with_h (replicate 14 6 ++ (5 ∷ [])) plain) 2
    -- past the end of the list: an a_j or an h_j that is not zero, the first such place and the last; within it neighbours are compared to its end
    ∷ handed_in (with_a (replicate 15 5 ++ (1 ∷ [])) plain) 2
    ∷ handed_in (with_a (replicate 23 0 ++ (1 ∷ [])) plain) 2
    ∷ handed_in (with_h (replicate 15 5 ++ (5 ∷ [])) plain) 2
    ∷ handed_in (with_h (replicate 23 0 ++ (1 ∷ [])) plain) 2
    ∷ handed_in (with_list shortest (with_a (replicate 14 5) plain)) 0
    ∷ handed_in (with_list shortest (with_a (replicate 15 5) plain)) 2
    ∷ handed_in (with_list shortest (with_h (replicate 14 1600) plain)) 0
    ∷ handed_in (with_list shortest (with_h (replicate 15 1600) plain)) 2
    ∷ handed_in (with_list fine (with_a (replicate 24 5) plain)) 0
    ∷ handed_in (with_list fine (with_a (replicate 23 5 ++ (6 ∷ [])) plain)) 2
    ∷ handed_in (with_list fine (with_h (replicate 24 1600) plain)) 0
    ∷ handed_in (with_list fine (with_h (replicate 23 6 ++ (5 ∷ [])) plain)) 2
    ∷ handed_in (with_list fine (with_h (replicate 23 1600 ++ (1601 ∷ [])) plain)) 2
    -- the refusals of calls
    ∷ answered (fresh_at 1) faults (3 ∷ 4 ∷ 5 ∷ 5 ∷ 5 ∷ 6 ∷ 7 ∷ 8 ∷ 8 ∷ 9 ∷ 9 ∷ 10 ∷ 0 ∷ 10 ∷ 0 ∷ [])
    ∷ answered (fresh_at 4) (block full_band ∷ block unnamed_rate ∷ block super_wideband ∷ []) (7 ∷ 7 ∷ 0 ∷ [])
    ∷ answered (fresh_at 5) (block super_wideband ∷ block unnamed_rate ∷ block full_band ∷ []) (7 ∷ 7 ∷ 0 ∷ [])
    ∷ answered (with_code 0 plain) (chunk (replicate 4097 (pos 0)) ∷ block three_bytes ∷ []) (2 ∷ 2 ∷ [])
    ∷ answered (with_list [] plain) (chunk (replicate 4097 (pos 0)) ∷ block three_bytes ∷ []) (2 ∷ 2 ∷ [])
    ∷ answered (with_margin (pos 0) plain) (chunk (replicate 4097 (pos 0)) ∷ block three_bytes ∷ []) (2 ∷ 2 ∷ [])
    ∷ answered (with_n (2 ^ 48 - 1) plain) (chunk (pos 1 ∷ pos 1 ∷ []) ∷ chunk (pos 1 ∷ []) ∷ chunk (pos 1 ∷ []) ∷ []) (11 ∷ 0 ∷ 11 ∷ [])
    ∷ answered (with_code 1 (with_n (2 ^ 48) plain)) (chunk (replicate 4097 (pos 0)) ∷ block sound_block ∷ block end_block ∷ []) (3 ∷ 10 ∷ 11 ∷ [])
    -- the line host's check
    ∷ checked sound_block 1 0
    ∷ checked full_block 1 0
    ∷ checked end_block 1 0
    ∷ checked other_code 2 0
    ∷ checked super_wideband 4 0
    ∷ checked full_band 5 0
    ∷ checked sound_block 6 1
    ∷ checked unnamed_rate 6 1
    ∷ checked three_bytes 0 1
    ∷ checked three_bytes 1 4
    ∷ checked other_sum 1 5
    ∷ checked high_sum 1 5
    ∷ checked other_weighted 1 5
    ∷ checked other_kind 1 6
    ∷ checked other_code 1 7
    ∷ checked sound_block 2 7
    ∷ checked super_wideband 5 7
    ∷ checked unnamed_rate 5 7
    ∷ checked no_count 1 8
    ∷ checked high_count 1 8
    ∷ checked used_next 1 9
    ∷ checked used_last 1 9
    -- blocks made: byte for byte, with a check word of 0, at another rate, full, over another block, and ending at 2^48 with one sample and with 248
    ∷ made 1 0 (pos 32767 ∷ []) (lent 512) 0 example_bytes
    ∷ made 3 6618611909121 (pos 258 ∷ minus 2 ∷ []) (lent 512) 0 plain_bytes
    ∷ made 1 0 samples_of_three (lent 512) 0 sound_block
    ∷ made 2 0 samples_of_three (lent 512) 0 other_code
    ∷ made 4 0 samples_of_three (lent 512) 0 super_wideband
    ∷ made 5 0 samples_of_three (lent 512) 0 full_band
    ∷ made 1 0 (replicate 248 (pos 1)) (lent 512) 0 full_block
    ∷ made 1 40 (replicate 20 (minus 32768)) full_block 0 twenty
    ∷ made 1 (2 ^ 48 - 1) (pos 1 ∷ []) (lent 512) 0 last_block
    ∷ made 1 (2 ^ 48 - 248) (replicate 248 (pos 1)) (lent 512) 0 last_full
    -- and refused: 1 before 4 and 18, 4 before 18, and 18 at each of its edges, where the sum would wrap at 2^64 too
    ∷ made 0 0 [] (lent 3) 1 (lent 3)
    ∷ made 6 0 (pos 1 ∷ []) (lent 512) 1 (lent 512)
    ∷ made 257 0 (pos 1 ∷ []) (lent 512) 1 (lent 512)
    ∷ made 1 0 [] (lent 511) 4 (lent 511)
    ∷ made 1 0 (pos 1 ∷ []) (lent 513) 4 (lent 513)
    ∷ made 1 0 (pos 1 ∷ []) [] 4 []
    ∷ made 1 0 [] (lent 512) 18 (lent 512)
    ∷ made 1 0 (replicate 249 (pos 1)) (lent 512) 18 (lent 512)
    ∷ made 1 (2 ^ 48) (pos 1 ∷ []) (lent 512) 18 (lent 512)
    ∷ made 1 (2 ^ 48 - 247) (replicate 248 (pos 1)) (lent 512) 18 (lent 512)
    ∷ made 1 (2 ^ 64 - 1) (pos 1 ∷ []) (lent 512) 18 (lent 512)
    ∷ []

unfoldable pub table : List Row
table = measuring ++ refusing

-- Rows that do not hold: those of the table with a value, a word or a number another, one or more of each kind. In the order of the table.
unfoldable pub wrong : List Row
wrong =
    rate 1 693 49174 139 43
    ∷ rate 2 8000 4360 1600 480
    -- K of the last rate at the one before, and an I one too few
    ∷ rate 4 32000 728 6400 1921
    ∷ rate 5 48000 728 9599 2881
    ∷ level 10 13607
    ∷ sampled (usual_setting 2) (pos 32767 ∷ []) 2285825920 9504510 [] 14
    ∷ percent (minus 54426) 0
    -- one step more of A, and a hundredth less of T
    ∷ reported second (record { L = pos 65536; A = pos 76670; C = pos 55034; F = minus 11133; lower = 6; upper = 7; T = 1519; M = pos 21635; mark = false })
    ∷ reported second (record { L = pos 65536; A = pos 76669; C = pos 55034; F = minus 11133; lower = 6; upper = 7; T = 1518; M = pos 21635; mark = false })
    ∷ refused quiet 16
    -- lev from 30 places; a number in its range without a level
    ∷ level 4407622486 131224
    ∷ no_level 1
    -- a K 6 % off, either way; and those next to the least and the largest that pass
    ∷ timed 694 46224
    ∷ timed 694 52124
    ∷ timed 8000 4098
    ∷ timed 8000 4622
    ∷ timed 16000 2051
    ∷ timed 16000 2313
    ∷ timed 32000 1026
    ∷ timed 32000 1158
    ∷ timed 48000 684
    ∷ timed 48000 772
    ∷ timed 694 48761
    ∷ timed 694 51140
    ∷ timed 48000 693
    ∷ timed 48000 767
    -- Q > c_j for Q ≥ c_j
    ∷ sampled (usual_setting 1) (pos 9126 ∷ pos 11705 ∷ []) 16052775414 (2 ^ 30) (replicate 5 2 ++ (1 ∷ 0 ∷ replicate 8 0)) 16
    -- the lower of two crossings, the second highest of three, and a change of sign upwards
    ∷ reported (given (2 ^ 30) (2 ^ 40) (replicate 4 (2 ^ 30) ++ replicate 11 (2 ^ 14))) (record { L = pos 40960; A = pos 40960; C = pos 19325; F = pos 0; lower = 2; upper = 3; T = 10000; M = pos 21635; mark = false })
    ∷ reported (given (2 ^ 20) (2 ^ 26) (2 ^ 20 ∷ 2 ^ 19 ∷ 2 ^ 16 ∷ 2 ^ 15 ∷ 2 ^ 12 ∷ replicate 10 (2 ^ 11))) (record { L = pos 24576; A = pos 43901; C = pos 22266; F = minus 19325; lower = 2; upper = 3; T = 379; M = pos 21635; mark = false })
    ∷ reported (given (2 ^ 30) (2 ^ 40) (replicate 4 (2 ^ 30) ++ replicate 11 64)) (record { L = pos 40960; A = pos 46688; C = pos 25053; F = minus 5728; lower = 3; upper = 4; T = 3793; M = pos 21635; mark = false })
    -- at other margins: no mark where there is one, 21635 steps from A to C, and the usual margin
    ∷ reported (with_margin (pos 20954) second) (record { L = pos 65536; A = pos 77350; C = pos 56396; F = minus 11814; lower = 6; upper = 7; T = 1354; M = pos 20954; mark = false })
    ∷ reported (with_margin (pos 20954) second) (record { L = pos 65536; A = pos 77350; C = pos 55715; F = minus 11814; lower = 6; upper = 7; T = 1354; M = pos 20954; mark = true })
    ∷ reported (with_margin (pos 22314) second) (record { L = pos 65536; A = pos 75990; C = pos 53676; F = minus 10454; lower = 6; upper = 7; T = 1705; M = pos 21635; mark = false })
    -- the interpolation rounded up
    ∷ reported (given 16384 (2 ^ 30) (replicate 7 4096 ++ (3000 ∷ replicate 7 0))) (record { L = pos 65536; A = pos 74581; C = pos 52946; F = minus 9045; lower = 6; upper = 7; T = 2164; M = pos 21635; mark = false })
    -- a count at c_8 is one less, and one of E's one more
    ∷ played (usual_setting 1) run (ran (pos 21635) powers (260 ∷ 260 ∷ 260 ∷ 260 ∷ 260 ∷ 259 ∷ 258 ∷ 257 ∷ 255 ∷ 253 ∷ 249 ∷ 242 ∷ 229 ∷ 197 ∷ 146 ∷ []) (ran_hangovers ++ (139 ∷ [])))
    ∷ counted (usual_setting 1) run (threshold 13) 198
    ∷ needs_two (usual_setting 1) (chunk (replicate 44 (pos 5215) ++ (pos 5243 ∷ pos 5256 ∷ pos 5205 ∷ pos 5187 ∷ [])) ∷ []) 103556
    -- a sample fewer, with which a D less by one is enough
    ∷ needs_d (usual_setting 1) (replicate 499 (pos 1) ++ (pos 31417 ∷ [])) 1175933558
    -- E counts one more there, and cards that are 3 apart said to be 2 apart
    ∷ cards 3 (offset_by 1 (pos 300)) other_card run mirrored 12 (4099 * 2 ^ 24 + 43) 229 229
    ∷ cards 2 (offset_by 1 (pos 300)) other_card run mirrored 12 (4098 * 2 ^ 24 + 43) 228 229
    ∷ opened (usual_setting 6) 0
    ∷ played (margin_by 3 (pos 2)) [] (fresh_values 3 (pos 1) powers 3200)
    -- a refused opening that keeps its margin
    ∷ played (margin_by 1 (pos 22315)) [] (zeros_but (pos 22315))
    ∷ handed_in (with_q (2 ^ 40 + 1) plain) 0
    -- the second of two equal blocks is accepted
    ∷ answered (fresh_at 1) (block sound_block ∷ block sound_block ∷ []) (0 ∷ 0 ∷ [])
    ∷ checked sound_block 2 0
    -- the last rate unknown to the host's check
    ∷ checked full_band 5 1
    -- the check words in each other's place, and another number
    ∷ made 1 0 (pos 32767 ∷ []) (lent 512) 0 (take 508 example_bytes ++ (127 ∷ 255 ∷ 1 ∷ 129 ∷ []))
    ∷ made 1 0 [] (lent 512) 4 (lent 512)
    ∷ []
