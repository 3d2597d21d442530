-- The bursts of a channel as tables.
use Rattle.std.specs.Prelude.{ℕ, ◌+◌, ◌/◌, ◌%◌, ◌==◌, Bool, if◌then◌else◌, List, [], ◌∷◌, ◌++◌, codes, decimal}
use Rattle.std.specs.Prelude.{flat_map, Option, Some, None}
use Rattle.std.specs.List.{range_with_len}
use Rattle.minislots.specs.declared.config.Config.{Config}
use Rattle.minislots.specs.declared.bursts.Bursts.{Bursts}
use Rattle.minislots.specs.declared.bursts.Bursts.TheVariants.{Uniform, Described}
use Rattle.minislots.specs.Units.{bytes_in}
use Rattle.bursts_command.specs.declared.channel.Channel.{Channel}
use Rattle.bursts_command.specs.declared.numbers.ByProfile.{ByProfile}
use Rattle.bursts_command.specs.declared.numbers.Burst.{Burst}
use Rattle.bursts_command.specs.Numbers.{burst_of, request_slots}
use Rattle.bursts_command.specs.Text.{column}

-- the titles of the columns of profiles, where there are burst descriptors
abbrev pub profile_titles : Bursts → List ℕ
profile_titles (Uniform bytes_per_slot overhead) = []
profile_titles (Described d) = codes "   short    long  unsolicited"

-- the titles of all columns
unfoldable pub head_text : Bursts → List ℕ
head_text bursts = codes "   bytes" ++ profile_titles bursts ++ codes "  usage  minislots  efficiency\n"

-- the minislots by each profile
unfoldable pub profile_cells : Option ByProfile → List ℕ
profile_cells None = []
profile_cells (Some by) =
    column 7 (decimal by.short) ++ column 7 (decimal by.long) ++ column 12 (decimal by.unsolicited)

-- the usage of a data grant
abbrev pub usage_cell : Bool → List ℕ
usage_cell short = if short then codes "  short" else codes "   long"

-- so many hundredths of a percent
unfoldable pub percent : ℕ → List ℕ
percent hundredths =
    column 7 (decimal (hundredths / 100)) ++ 46 ∷ (48 + hundredths / 10 % 10) ∷ (48 + hundredths % 10) ∷ 37 ∷ []

-- the line of bursts of one size
unfoldable pub burst_line : Burst → List ℕ
burst_line b =
    column 7 (decimal b.bytes) ++ profile_cells b.by_profile ++ usage_cell b.is_short ++ column 10 (decimal b.slots)
    ++ percent b.efficiency ++ codes "\n"

-- the minislots of requests of 6 and of 7 bytes, where they are known
unfoldable pub request_line : Option ℕ → Option ℕ → List ℕ
request_line (Some six) (Some seven) =
    codes "\nrequest: " ++ decimal six ++ codes " minislots for 6 bytes, " ++ decimal seven ++ codes " for 7 bytes\n"
request_line (Some six) None = []
request_line None seven = []

-- a line begins with every tenth number of minislots
unfoldable pub grid_begin : ℕ → List ℕ
grid_begin slots = if slots % 10 == 0 then codes "\n" ++ column 8 (decimal slots) else []

-- the most bytes of a data grant of so many minislots
abbrev pub grid_cell : Config → ℕ → List ℕ
grid_cell c slots = grid_begin slots ++ column 6 (decimal (bytes_in c slots))

-- the titles above them
unfoldable pub grid_titles : List ℕ
grid_titles = codes "\nminislots     +0     +1     +2     +3     +4     +5     +6     +7     +8     +9"

-- those of none up to a whole frame
unfoldable pub grid_text : Config → List ℕ
grid_text c =
    grid_titles ++ flat_map (grid_cell c) (range_with_len 0 (c.frame + 1)) ++ codes "\n"

-- the tables of bursts of these sizes
unfoldable pub table_text : Channel → List ℕ → List ℕ
table_text channel sizes =
    head_text channel.config.bursts ++ flat_map (λ n. burst_line (burst_of channel.config n)) sizes
    ++ request_line (request_slots channel 6) (request_slots channel 7) ++ grid_text channel.config
