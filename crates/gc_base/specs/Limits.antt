-- The limits of the system, as numbers. This project's own rules. A value may be equal to its limit.
use Rattle.std.specs.Prelude.{ℕ, ◌+◌, ◌-◌, ◌^◌}

-- the greatest tick that there is
abbrev pub greatest_tick : ℕ
greatest_tick = 2 ^ 63 - 1

-- the greatest tick at which a run serves an event
abbrev pub last_served_tick : ℕ
last_served_tick = 2 ^ 62

-- the greatest tick of any state: what is scheduled from the last served tick on stays below it
abbrev pub greatest_scheduled_tick : ℕ
greatest_scheduled_tick = 2 ^ 62 + 2 ^ 44

-- the least size of RAM, in bytes
abbrev pub least_ram : ℕ
least_ram = 4096

-- the greatest size of RAM, in bytes
abbrev pub greatest_ram : ℕ
greatest_ram = 16777216

-- the size of a page, in bytes, of which RAM has whole ones
abbrev pub page_size : ℕ
page_size = 4096

-- the greatest latency, in ticks
abbrev pub greatest_latency : ℕ
greatest_latency = 1000000

-- the greatest period, in ticks
abbrev pub greatest_period : ℕ
greatest_period = 1000000

-- the most sets of a cache
abbrev pub most_sets : ℕ
most_sets = 1024

-- the most ways of a cache
abbrev pub most_ways : ℕ
most_ways = 16

-- the most miss registers of a cache
abbrev pub most_miss_registers : ℕ
most_miss_registers = 16

-- the most targets of a miss register
abbrev pub most_targets : ℕ
most_targets = 16

-- the most packets in a cache's queue of writes
abbrev pub longest_write_queue : ℕ
longest_write_queue = 64

-- the most packets in a memory's queue
abbrev pub longest_memory_queue : ℕ
longest_memory_queue = 64

-- the most packets that a DMA engine has on their way
abbrev pub widest_dma_window : ℕ
widest_dma_window = 16

-- the greatest budget of a run, in events
abbrev pub greatest_budget : ℕ
greatest_budget = 1000000000000

-- the longest configuration file, in bytes
abbrev pub longest_config : ℕ
longest_config = 65536

-- the longest script file, in bytes
abbrev pub longest_script : ℕ
longest_script = 65536

-- the longest source file of the assembler, in bytes
abbrev pub longest_source : ℕ
longest_source = 1048576

-- the longest image file, in bytes
abbrev pub longest_image : ℕ
longest_image = 33554432

-- the longest checkpoint file, in bytes
abbrev pub longest_checkpoint : ℕ
longest_checkpoint = 67108864

-- the most lines of a script
abbrev pub most_script_lines : ℕ
most_script_lines = 256

-- the longest input of the UART, in bytes
abbrev pub longest_uart_input : ℕ
longest_uart_input = 256
