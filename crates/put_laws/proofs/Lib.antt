mod Recording
mod Bodies
