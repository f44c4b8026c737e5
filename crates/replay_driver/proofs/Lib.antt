mod Running
mod Counting
mod Making
mod Chosen
mod Storming
mod StormValues
