-- Every row of the table holds, and no wrong row passes: the tests of all rows are computed. This is the one place that opens lev. The search for a percentage stays shut.
use mathlib.Core.Bool.{Bool, true}
use mathlib.Core.Path.{◌≡◌, refl}
use Rattle.level.specs.Types.{words}
use Rattle.level.specs.Logarithm.{place_up_to, place, start as start_of, bit, next, spell, lev, level_of}
use Rattle.rate.specs.Rates.{rate_of, is_named, row_of, lasts_at_least, lasts_at_most, keeps_time}
use Rattle.refusal.specs.First.{first_of}
use Rattle.coding.specs.Numbers.{number_at, bytes_of}
use Rattle.coding.specs.Samples.{signed, word_of, samples_at, bytes_of_samples}
use Rattle.block.specs.Block.{kind, rate_code, count, before, samples_in, word, sum_below, check_sum, weighted_sum}
use Rattle.block.specs.Refusals.{wrong_length, wrong_check, wrong_kind, wrong_rate, wrong_count, zeros, used_unused, block_rules, sound, host_rules, host_check}
use Rattle.block.specs.Written.{contents_of, block_of, unwritable, write_rules, write_call}
use Rattle.sample.specs.Activity.{counted, hung}
use Rattle.sample.specs.Envelope.{smooth, size, rectified}
use Rattle.thresholds.specs.Lists.{held_of, no_list, doubled, built_in_list, wrong_length as wrongListLength, wrong_entry, wrong_end, list_rules, unloadable}
use Rattle.thresholds.specs.Places.{list_from, up_to, some_below, some_from}
use Rattle.sample.specs.Sample.{fresh_state, summed, counts, hangovers, state_after_one, state_after}
use Rattle.crossing.specs.Levels.{long_term, active_at, level_of_threshold, excess}
use Rattle.crossing.specs.Crossing.{is_crossing, highest_below, crossing, lower_of, active_level}
use Rattle.crossing.specs.Searched.{levels_at, no_levels, crossing_in, first_excess}
use Rattle.percent.specs.Percent.{not_above}
use Rattle.possible.specs.Impossible.{any_of, many_samples, large_sum, large_squares, large_p, large_q, impossible_sums, long_hangover, large_count, rising_count, falling_hangover, impossible_counter, filled_counter}
use Rattle.meter.specs.Refusals.{unnamed_code, impossible, long_chunk, wrong_place, too_many, open_rules, chunk_rules, block_call_rules}
use Rattle.meter.specs.Reports.{crossing_of, first_of_meter, no_samples, no_signal, no_activity, level_below, level_above, report_rules, no_report, report_with, report_at, report_for}
use Rattle.setting.specs.Settings.{k_of, i_of, d_of, wrong_margin}
use Rattle.meter.specs.Calls.{fresh, zero_meter, counting_of, after_samples, open_call, chunk_call, block_call, report_call}
use Rattle.exact.specs.Calls.{brought_by}
use Rattle.exact.specs.Exact.{start_at, start, distance, reaches, count_next, hangover_next, take_one, take_all, accepts, fed, exactly}
use Rattle.exact.specs.Lists.{called, accepted, after, taken}
use Rattle.figures.specs.Blocks.{pairs, block_with, sound_block, full_block, end_block, twenty, last_block, last_full, example_bytes, plain_bytes, three_bytes, other_sum, high_sum, other_weighted, other_kind, other_code, super_wideband, full_band, unnamed_rate, no_count, high_count, used_next, used_last}
use Rattle.figures.specs.Meters.{given}
use Rattle.figures.specs.Rows.{Row, sampled_meter, meter_from, exact_from, numbers_of, carried_by, measurement_of, shown_by, values_of, in_places, All}
use Rattle.figures.specs.Table.{softly, run, mirrored, faults, measuring, refusing, table, wrong}
use Rattle.figures.proofs.Rows.{same_shown, alike, test_of, test, all_true, none_true, sound_table, joined}

-- Where this is unfolded, so is all that its own line names, by which the tests of rows are computed. It is there for nothing else.
computed : Row → Bool
unfolding place_up_to place start_of bit next spell lev level_of rate_of is_named row_of lasts_at_least lasts_at_most keeps_time first_of number_at kind rate_code count before signed samples_at samples_in word sum_below check_sum weighted_sum wrong_length wrong_check wrong_kind wrong_rate wrong_count zeros used_unused block_rules sound host_rules host_check bytes_of word_of bytes_of_samples contents_of block_of unwritable write_rules write_call counted hung smooth size rectified held_of no_list doubled built_in_list wrongListLength wrong_entry wrong_end list_rules unloadable list_from up_to words fresh_state k_of i_of d_of fresh zero_meter counting_of after_samples summed counts hangovers state_after_one state_after long_term active_at level_of_threshold excess is_crossing highest_below crossing lower_of active_level not_above any_of some_below some_from unnamed_code wrong_margin many_samples large_sum large_squares large_p large_q impossible_sums long_hangover large_count rising_count falling_hangover impossible_counter filled_counter impossible long_chunk wrong_place too_many open_rules chunk_rules block_call_rules levels_at no_levels crossing_in first_excess crossing_of first_of_meter no_samples no_signal no_activity level_below level_above report_rules no_report report_with report_at report_for open_call chunk_call block_call report_call start_at start distance reaches count_next hangover_next take_one take_all accepts brought_by fed exactly called accepted after taken given sampled_meter meter_from exact_from numbers_of carried_by measurement_of shown_by values_of in_places pairs block_with sound_block full_block end_block twenty last_block last_full example_bytes plain_bytes three_bytes other_sum high_sum other_weighted other_kind other_code super_wideband full_band unnamed_rate no_count high_count used_next used_last softly run mirrored faults same_shown alike test_of test
computed r = test r

-- In parts, and apart from the wrong rows: the checker counts the steps of one declaration, and all together are too many.
measured : All measuring
unfolding computed measuring all_true
measured = sound_table measuring refl

refused : All refusing
unfolding computed refusing all_true
refused = sound_table refusing refl

pub figures : All table
unfolding table
figures = joined measuring refusing measured refused

pub none_passes : none_true test wrong ≡ true
unfolding computed wrong none_true
none_passes = refl
