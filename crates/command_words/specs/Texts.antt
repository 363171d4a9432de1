-- What the program prints of itself.
use Rattle.std.specs.Prelude.{ℕ, List, ◌++◌, codes}

-- the commands, and what an exit status is
unfoldable pub help_text : List ℕ
help_text =
    codes "cache_tool: a disk cache that is proved\n\n"
    ++ (codes "cache_tool replay < SCRIPT      runs a script: one line of output for each step\n"
    ++ (codes "cache_tool work N < SCRIPT      runs a script whose lines behind split are jobs of N workers, 1 to 16\n"
    ++ (codes "cache_tool inspect NAME         prints the span of a device and both copies of its directory, and writes nothing\n"
    ++ (codes "cache_tool check NAME           prints what a device opens to, and writes nothing\n"
    ++ (codes "cache_tool --help, -h           prints this\n"
    ++ (codes "cache_tool --version, -V        prints the version, and the toolchain that it is proved with\n\n"
    ++ (codes "NAME is the path of a file, or begins with mem:, and one that begins with - stands behind --.\n"
    ++ (codes "A copy's fault: 1 gate shut, 2 magic, 3 version, 4 serials, 5 digest, 6 geometry.\n"
    ++ (codes "Exit status: 0 done, 2 no such command, 3 bad line, 4 read fault, 5 write fault, 6 no device,\n"
    ++ codes "7 line too long, 8 nothing to open, 9 out of memory, 10 too many lines.\n")))))))))

unfoldable pub version_text : List ℕ
version_text = codes "cache_tool 0.9 (rattle-kit-13f logic dac8208d650f15bf)\n"
